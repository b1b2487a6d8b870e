-- What a put leaves: the rows, the directory, and where a new row went.
use Rattle.std.proofs.Common.{◌≡◌, inl, ℕ, ◌+◌, ◌-◌, ◌*◌, ◌≤◌, ◌==◌, nat_eq, Bool, true, false, cond, List, [], ◌∷◌, ◌++◌, length, take, Option, Some, None, is_some, refl, sym, ap, ap₂, subst, ◌∙◌, arith}
use Rattle.std.specs.Option.{option_map}
use Rattle.std.specs.Map.{keys_of}
use Rattle.std.specs.List.{IsDistinct, AllByRecursion}
use Rattle.std.proofs.lemmas.List.{length-append}
use Rattle.std.proofs.lemmas.Bool.{eq-eqb, ne_eqb}
use Rattle.indexmap.specs.IndexMap.{get, insert_entry}
use Rattle.page_model.specs.Pages.{Pages, Address}
use Rattle.page_model.specs.Spans.{span}
use Rattle.page_space.specs.Map.{free_of}
use Rattle.engine_base.specs.Addresses.{address_of}
use Rattle.engine_base.specs.declared.addr.Addr.{Addr}
use Rattle.engine_base.specs.declared.ids.DocId.{DocId}
use Rattle.undo_model.specs.Data.{Row}
use Rattle.undo_model.specs.Rows.{Keyed, RowPage, AreOnce, IsRows, AreSlots, AreRowPages, row_base, somes, rows_of, row_for}
use Rattle.row_dir.specs.declared.dir.RowDir.{RowDir}
use Rattle.row_dir.specs.Directory.{free_in, rooms_of, places_of, place_for, AreFull, IsFirstOpen, IsDirectory, numbers}
use Rattle.row_dir.specs.Notes.{NotesRow}
use Rattle.row_dir.specs.RowPages.{SetsSlotTo, CanChange, IsFirstFree, page_of}
use Rattle.row_dir.specs.Puts.{PutsRow}
use Rattle.row_dir.proofs.RowsLemmas.{rows_before, rows_behind, rows_around, somes_join, places_before, places_behind, places_around, look_more, new_of, once_more, row_more}
use Rattle.row_dir.proofs.PlainLemmas.{puts_row}
use Rattle.row_dir.proofs.FindLemmas.{some_both}
use Rattle.row_dir.proofs.ChangeLemmas.{are_split, slot_moved, slot_free_kept}

-- ---- pages with their free slots

pub rooms_join : (bs cs : List RowPage) → rooms_of (bs ++ cs) ≡ rooms_of bs ++ rooms_of cs
rooms_join [] cs = refl
rooms_join (b ∷ bs) cs = ap (λ (xs : List (ℕ × ℕ)). (b.page, free_in b.slots) ∷ xs) (rooms_join bs cs)

pub free_join : (ss ts : List (Option Keyed)) → free_in (ss ++ ts) ≡ free_in ss + free_in ts
free_join [] ts = omega arith
free_join (None ∷ ss) ts = let r = free_join ss ts in omega (arith, r)
free_join (Some k ∷ ss) ts = free_join ss ts

-- rows and free slots are all the slots
pub all_slots : (ss : List (Option Keyed)) → length (somes ss) + free_in ss ≡ length ss
all_slots [] = refl
all_slots (None ∷ ss) = let r = all_slots ss in omega (arith, r)
all_slots (Some k ∷ ss) = let r = all_slots ss in omega (arith, r)

pub all_at : (P : ℕ → Type 0) (before : List (ℕ × ℕ)) (n f : ℕ) (behind : List (ℕ × ℕ)) → AllByRecursion P (keys_of (before ++ (n, f) ∷ behind)) → P n
all_at P [] n f behind all = all.0
all_at P (b ∷ before) n f behind all = all_at P before n f behind all.1

-- another number for a page that is there
pub insert_there : (before : List (ℕ × ℕ)) (n f g : ℕ) (behind : List (ℕ × ℕ)) → IsDistinct nat_eq (keys_of (before ++ (n, f) ∷ behind)) → insert_entry nat_eq (before ++ (n, f) ∷ behind) n g ≡ before ++ (n, g) ∷ behind
unfolding IsDistinct
insert_there [] n f g behind once = rw (eq-eqb n n refl) refl
insert_there (b ∷ before) n f g behind once =
    let other : (n == b.0) ≡ false = ne_eqb n b.0 (λ e. absurd (clash (sym (all_at (λ y. nat_eq b.0 y ≡ false) before n f behind once.0) ∙ eq-eqb b.0 n (sym e)))) in
    rw other (ap (λ (xs : List (ℕ × ℕ)). b ∷ xs) (insert_there before n f g behind once.1))
  where
    clash : false ≡ true → ⊥
    clash h = cc

pub taken_before : (before : List (ℕ × ℕ)) (rest : List (ℕ × ℕ)) (r : ℕ) → length before ≡ r → take r (before ++ rest) ≡ before
taken_before before rest r is = subst (λ n. take n (before ++ rest) ≡ before) is (all before)
  where
    all : (xs : List (ℕ × ℕ)) → take (length xs) (xs ++ rest) ≡ xs
    all [] = refl
    all (x ∷ xs) = ap (λ (ys : List (ℕ × ℕ)). x ∷ ys) (all xs)

-- the row page that has these free slots
pub record Split (rows : List RowPage) (before : List (ℕ × ℕ)) (n f : ℕ) (behind : List (ℕ × ℕ)) : Type 0 where
  pub bs : List RowPage
  pub slots : List (Option Keyed)
  pub cs : List RowPage
  pub split : rows ≡ bs ++ page_of n slots ∷ cs
  pub rooms : rooms_of bs ≡ before
  pub free : free_in slots ≡ f
  pub rest : rooms_of cs ≡ behind

pub page_split : (rows : List RowPage) (before : List (ℕ × ℕ)) (n f : ℕ) (behind : List (ℕ × ℕ)) → rooms_of rows ≡ before ++ (n, f) ∷ behind → Split rows before n f behind
page_split [] [] n f behind is = cc
page_split [] (b ∷ before) n f behind is = cc
page_split (p ∷ rows) [] n f behind is =
    let e : (p.page, free_in p.slots) ≡ (n, f) = cc in
    let a : p.page ≡ n = ap (λ (x : ℕ × ℕ). x.0) e in
    let b : free_in p.slots ≡ f = ap (λ (x : ℕ × ℕ). x.1) e in
    let c : rooms_of rows ≡ behind = cc in
    record { bs = []; slots = p.slots; cs = rows; split = ap (λ (m : ℕ). page_of m p.slots ∷ rows) a; rooms = refl; free = b; rest = c }
page_split (p ∷ rows) (b ∷ before) n f behind is =
    let a : (p.page, free_in p.slots) ≡ b = cc in
    let c : rooms_of rows ≡ before ++ (n, f) ∷ behind = cc in
    let s = page_split rows before n f behind c in
    record { bs = p ∷ s.bs; slots = s.slots; cs = s.cs; split = ap (λ (xs : List RowPage). p ∷ xs) s.split; rooms = ap₂ (λ (x : ℕ × ℕ) (xs : List (ℕ × ℕ)). x ∷ xs) a s.rooms; free = s.free; rest = s.rest }

pub numbers_pushed : (ds : List DocId) (d : DocId) → numbers (ds ++ d ∷ []) ≡ numbers ds ++ d.0 ∷ []
numbers_pushed [] d = refl
numbers_pushed (x ∷ ds) d = ap (λ (ns : List ℕ). x.0 ∷ ns) (numbers_pushed ds d)

pub map_cond : {A B : Type 0} (f : A → B) (b : Bool) (x : A) (o : Option A) → option_map f (cond b (Some x) o) ≡ cond b (Some (f x)) (option_map f o)
map_cond f true x o = refl
map_cond f false x o = refl

pub none_sym : {A : Type 0} (o : Option A) → None ≡ o → o ≡ None
none_sym o e = sym e

-- ---- a new document's row, in the first free slot

module _ (old new : Pages) (bs : List RowPage) (n : ℕ) (ss ts : List (Option Keyed)) (cs : List RowPage) (dir dir' : RowDir) (k : Keyed) (doc : DocId) (place : Addr) (index free count : ℕ)
    (is : IsRows old row_base (bs ++ page_of n (ss ++ None ∷ ts) ∷ cs)) (can : CanChange (bs ++ page_of n (ss ++ None ∷ ts) ∷ cs) old) (d : IsDirectory dir (bs ++ page_of n (ss ++ None ∷ ts) ∷ cs))
    (full : AreFull (rooms_of bs)) (many : length (rooms_of bs) ≡ index) (free_is : free_in (ss ++ None ∷ ts) ≡ free) (some : 1 ≤ free) (taken : free_in ss ≡ 0)
    (sets : SetsSlotTo (address_of place) (Some k) count old new) (in_page : place.page.0 ≡ n) (at : place.at ≡ 52 + 40 * length ss) (counts : count ≡ 409 - free)
    (absent : get nat_eq dir.places doc.0 ≡ None) (its : k.doc ≡ doc.0) (notes : NotesRow doc place (free - 1) index dir dir') where
  at_none : place_for k.doc (places_of (bs ++ page_of n (ss ++ None ∷ ts) ∷ cs)) ≡ None
  at_none =
      let P : ℕ → Type 0 = λ m. place_for m (places_of (bs ++ page_of n (ss ++ None ∷ ts) ∷ cs)) ≡ None in
      subst P (sym its) (sym (d.finds doc.0) ∙ ap (option_map address_of) absent)

  row_none : row_for k.doc (rows_of (bs ++ page_of n (ss ++ None ∷ ts) ∷ cs)) ≡ None
  row_none = none_of (row_for k.doc (rows_of (bs ++ page_of n (ss ++ None ∷ ts) ∷ cs))) (sym (some_both k.doc (bs ++ page_of n (ss ++ None ∷ ts) ∷ cs)) ∙ ap is_some at_none)
    where
      none_of : {A : Type 0} (o : Option A) → is_some o ≡ false → o ≡ None
      none_of None e = refl
      none_of (Some x) e = cc

  around : rows_of (bs ++ page_of n (ss ++ None ∷ ts) ∷ cs) ≡ rows_before bs ss ++ rows_behind ts cs
  around = rows_around bs n ss None ts cs

  around' : rows_of (bs ++ page_of n (ss ++ Some k ∷ ts) ∷ cs) ≡ rows_before bs ss ++ k ∷ rows_behind ts cs
  around' = rows_around bs n ss (Some k) ts cs

  none_there : row_for k.doc (rows_before bs ss ++ rows_behind ts cs) ≡ None
  none_there = ap (row_for k.doc) (sym around) ∙ row_none

  once_now : AreOnce (rows_of (bs ++ page_of n (ss ++ Some k ∷ ts) ∷ cs))
  once_now = subst AreOnce (sym around') (once_more (rows_before bs ss) k (rows_behind ts cs) (new_of k.doc (rows_before bs ss ++ rows_behind ts cs) none_there) (subst AreOnce around is.once))

  free_now : free_in (ss ++ Some k ∷ ts) + 1 ≡ free
  free_now = let e = free_join ss (Some k ∷ ts) in let f = free_join ss (None ∷ ts) in let g = free_is in omega (arith, e, f, g)

  long : length (ss ++ Some k ∷ ts) ≡ 408
  long = let m = (are_split old bs (page_of n (ss ++ None ∷ ts)) cs is.each).1.many in let i = length-append ss (None ∷ ts) in let j = length-append ss (Some k ∷ ts) in omega (arith, m, i, j)

  counted : count ≡ length (somes (ss ++ Some k ∷ ts))
  counted = let s = all_slots (ss ++ Some k ∷ ts) in let f = free_now in let l = long in let c = counts in omega (arith, s, f, l, c)

  some_rows : 1 ≤ count
  some_rows =
      let s = all_slots (ss ++ Some k ∷ ts) in let f = free_now in let l = long in let c = counts in
      let j = ap length (somes_join ss (Some k ∷ ts)) in let i = length-append (somes ss) (somes (Some k ∷ ts)) in let e = counted in omega (arith, e, j, i)

  finds_now : (m : ℕ) → option_map address_of (get nat_eq dir'.places m) ≡ place_for m (places_of (bs ++ page_of n (ss ++ Some k ∷ ts) ∷ cs))
  finds_now m =
      let pb = places_before bs n ss in
      let pr = places_behind n ss ts cs in
      let h : Address = record { page = n; at = 52 + 40 * length ss } in
      let none : place_for k.doc (pb ++ pr) ≡ None = ap (place_for k.doc) (sym (places_around bs n ss None ts cs)) ∙ at_none in
      let same : address_of place ≡ h = ap₂ (λ (x y : ℕ). let q : Address = record { page = x; at = y } in q) in_page at in
      ap (option_map address_of) (notes.finds m) ∙ (map_cond address_of (nat_eq doc.0 m) place (get nat_eq dir.places m)
      ∙ (ap (λ (o : Option Address). cond (nat_eq doc.0 m) (Some (address_of place)) o) (d.finds m ∙ ap (place_for m) (places_around bs n ss None ts cs))
      ∙ (ap₂ (λ (x : ℕ) (y : Address). cond (x == m) (Some y) (place_for m (pb ++ pr))) (sym its) same
      ∙ sym (ap (place_for m) (places_around bs n ss (Some k) ts cs) ∙ look_more k.doc m h pb pr none))))

  rooms_now : dir'.pages.entries ≡ rooms_of bs ++ (n, free_in (ss ++ Some k ∷ ts)) ∷ rooms_of cs
  rooms_now =
      let e = d.rooms ∙ rooms_join bs (page_of n (ss ++ None ∷ ts) ∷ cs) in
      let once : IsDistinct nat_eq (keys_of (rooms_of bs ++ (n, free_in (ss ++ None ∷ ts)) ∷ rooms_of cs)) = subst (λ es. IsDistinct nat_eq (keys_of es)) e d.each_once in
      notes.pages ∙ (ap₂ (λ (es : List (ℕ × ℕ)) (m : ℕ). insert_entry nat_eq es m (free - 1)) e in_page
      ∙ (insert_there (rooms_of bs) n (free_in (ss ++ None ∷ ts)) (free - 1) (rooms_of cs) once
      ∙ ap (λ (f : ℕ). rooms_of bs ++ (n, f) ∷ rooms_of cs) (let f = free_now in omega (arith, f))))

  directory_now : IsDirectory dir' (bs ++ page_of n (ss ++ Some k ∷ ts) ∷ cs)
  directory_now = record {
    finds = finds_now;
    rooms = rooms_now ∙ sym (rooms_join bs (page_of n (ss ++ Some k ∷ ts) ∷ cs));
    full =
        (let t = taken_before (rooms_of bs) ((n, free_in (ss ++ Some k ∷ ts)) ∷ rooms_of cs) index many in
        subst (λ es. AreFull (take dir'.full es)) (sym rooms_now) (subst (λ m. AreFull (take m (rooms_of bs ++ (n, free_in (ss ++ Some k ∷ ts)) ∷ rooms_of cs))) (sym notes.full) (subst AreFull (sym t) full)));
    docs = ap numbers notes.docs ∙ (numbers_pushed dir.docs.items doc ∙ (ap (λ (ns : List ℕ). ns ++ doc.0 ∷ []) d.docs ∙ sym notes.keys));
    once = notes.once;
    each_once = notes.each_once;
  }

  pub filled_there : PutsRow k dir' (bs ++ page_of n (ss ++ None ∷ ts) ∷ cs) old new × (free_of new ≡ free_of old)
  filled_there = (
    puts_row (bs ++ page_of n (ss ++ None ∷ ts) ∷ cs) (bs ++ page_of n (ss ++ Some k ∷ ts) ∷ cs) (span n (52 + 40 * length ss) 40 ∷ span n 50 2 ∷ []) old new
        (slot_moved old new bs n ss None (Some k) ts cs (address_of place) count is can sets in_page at counted some_rows once_now) k dir' directory_now
        (λ m. ap (row_for m) around' ∙ (row_more m (rows_before bs ss) k (rows_behind ts cs) none_there ∙ ap (λ (o : Option Row). cond (k.doc == m) (Some k.row) o) (sym (ap (row_for m) around))))
        (λ is_new. inl (record { before = bs; page = n; slots_before = ss; slots_behind = ts; behind = cs; was = refl; full = full; taken = taken; now = refl })),
    slot_free_kept old new bs n ss None (Some k) ts cs (address_of place) count is can sets in_page at counted some_rows once_now,
  )

-- the same, as the calls find the page and the slot
pub filled_first : (old new : Pages) (rows : List RowPage) (dir dir' : RowDir) (k : Keyed) (doc : DocId) (place : Addr) (index free count : ℕ)
    → IsRows old row_base rows → CanChange rows old → IsDirectory dir rows → IsFirstOpen dir.pages.entries index place.page.0 free
    → ((slots : List (Option Keyed)) → AreSlots old place.page.0 52 slots → length slots ≡ 408 → IsFirstFree slots place.at)
    → SetsSlotTo (address_of place) (Some k) count old new → count ≡ 409 - free → get nat_eq dir.places doc.0 ≡ None → k.doc ≡ doc.0 → NotesRow doc place (free - 1) index dir dir' → PutsRow k dir' rows old new × (free_of new ≡ free_of old)
filled_first old new rows dir dir' k doc place index free count is can d first finds sets counts absent its notes =
    let n = place.page.0 in
    let s = page_split rows first.before n free first.behind (sym d.rooms ∙ first.split) in
    let Q : List RowPage → Type 0 = λ rs. IsRows old row_base rs × CanChange rs old × IsDirectory dir rs in
    let q = subst Q s.split (is, can, d) in
    let page = (are_split old s.bs (page_of n s.slots) s.cs q.0.each).1 in
    let f = finds s.slots page.slots page.many in
    let S : List (Option Keyed) → Type 0 = λ xs. Q (s.bs ++ page_of n xs ∷ s.cs) × (free_in xs ≡ free) in
    let w = subst S f.split (q, s.free) in
    let full : AreFull (rooms_of s.bs) = subst AreFull (sym s.rooms) first.full in
    let many : length (rooms_of s.bs) ≡ index = ap length s.rooms ∙ first.many in
    let T : List RowPage → Type 0 = λ rs. PutsRow k dir' rs old new × (free_of new ≡ free_of old) in
    let U : List (Option Keyed) → Type 0 = λ xs. PutsRow k dir' (s.bs ++ page_of n xs ∷ s.cs) old new × (free_of new ≡ free_of old) in
    subst T (sym s.split) (subst U (sym f.split) (filled_there old new s.bs n f.before f.behind s.cs dir dir' k doc place index free count w.0.0 w.0.1 w.0.2 full many w.1 first.some f.taken sets refl f.place counts absent its notes))

-- the slots of the page that is open
pub open_slots : (old : Pages) (rows : List RowPage) (dir : RowDir) (index n free : ℕ) → IsRows old row_base rows → IsDirectory dir rows → IsFirstOpen dir.pages.entries index n free
    → (slots : List (Option Keyed)) × AreSlots old n 52 slots × (length slots ≡ 408) × (1 ≤ free_in slots)
open_slots old rows dir index n free is d first =
    let s = page_split rows first.before n free first.behind (sym d.rooms ∙ first.split) in
    let page = (are_split old s.bs (page_of n s.slots) s.cs (subst (AreRowPages old) s.split is.each)).1 in
    (s.slots, page.slots, page.many, (let e = s.free in let f = first.some in omega (arith, e, f)))
