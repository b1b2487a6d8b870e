-- What a row less means: for the rows, for the directory, and for the pages.
use Rattle.std.proofs.Common.{◌≡◌, ℕ, ◌+◌, ◌-◌, ◌*◌, ◌<◌, ◌≤◌, ◌==◌, nat_eq, Bool, true, false, cond, List, [], ◌∷◌, ◌++◌, length, take, Option, Some, None, is_some, refl, sym, ap, ap₂, subst, ◌∙◌, arith}
use Rattle.std.specs.Option.{option_map}
use Rattle.std.specs.Map.{keys_of, lookup}
use Rattle.std.specs.List.{IsDistinct}
use Rattle.std.proofs.lemmas.List.{length-append}
use Rattle.std.proofs.lemmas.Bool.{eqb-true, eq-eqb, ne_eqb}
use Rattle.indexmap.specs.IndexMap.{get, insert_entry, shift_remove_entry}
use Rattle.page_model.specs.Pages.{Pages, Address}
use Rattle.page_model.specs.Spans.{span}
use Rattle.page_space.specs.Map.{free_of}
use Rattle.engine_base.specs.Addresses.{address_of}
use Rattle.engine_base.specs.declared.addr.Addr.{Addr}
use Rattle.engine_base.specs.declared.ids.DocId.{DocId}
use Rattle.undo_model.specs.Data.{Row}
use Rattle.undo_model.specs.Rows.{Keyed, RowPage, IsNew, AreOnce, IsRows, row_base, somes, rows_of, row_for}
use Rattle.row_dir.specs.declared.dir.RowDir.{RowDir}
use Rattle.row_dir.specs.Directory.{free_in, rooms_of, places_of, place_for, AreFull, IsDirectory, numbers}
use Rattle.row_dir.specs.Notes.{ForgetsRow, FreesSlot}
use Rattle.row_dir.specs.RowPages.{SetsSlotTo, CanChange, page_of}
use Rattle.row_dir.specs.Removes.{RemovesRow}
use Rattle.row_dir.proofs.PlainLemmas.{removes_row}
use Rattle.row_dir.proofs.RowsLemmas.{rows_before, rows_behind, rows_around, places_before, places_behind, places_around, look_more, once_less, none_of_new, row_more}
use Rattle.row_dir.proofs.FindLemmas.{some_both}
use Rattle.row_dir.proofs.ChangeLemmas.{are_split, slot_moved, slot_free_kept}
use Rattle.row_dir.proofs.PutLemmas.{rooms_join, free_join, all_slots, all_at, insert_there}
use Rattle.row_dir.proofs.ReplaceLemmas.{slot_of_doc}
use Rattle.row_dir.proofs.ForgetLemmas.{full_less}

out : {A : Type 0} (b : Bool) (x o : Option A) → (b ≡ true → o ≡ None) → o ≡ cond b None (cond b x o)
out true x o none = none refl
out false x o none = refl

-- ---- a row less, as lists

module _ (rows after : List RowPage) (xs ys : List Keyed) (k : Keyed) (pb pr : List (ℕ × Address)) (h : Address) (was : rows_of rows ≡ xs ++ k ∷ ys) (now : rows_of after ≡ xs ++ ys)
    (at_was : places_of rows ≡ pb ++ (k.doc, h) ∷ pr) (at_now : places_of after ≡ pb ++ pr) (once : AreOnce (rows_of rows)) where
  less : AreOnce (xs ++ ys) × IsNew k.doc (xs ++ ys)
  less = once_less xs k ys (subst AreOnce was once)

  none : row_for k.doc (xs ++ ys) ≡ None
  none = none_of_new k.doc (xs ++ ys) less.1

  pub once_without : AreOnce (rows_of after)
  once_without = subst AreOnce (sym now) less.0

  pub shows_without : (d : ℕ) → row_for d (rows_of after) ≡ cond (k.doc == d) None (row_for d (rows_of rows))
  shows_without d =
      let o = row_for d (xs ++ ys) in
      ap (row_for d) now ∙ (out (k.doc == d) (Some k.row) o (λ same. ap (λ (m : ℕ). row_for m (xs ++ ys)) (sym (eqb-true k.doc d same)) ∙ none)
      ∙ ap (λ (x : Option Row). cond (k.doc == d) None x) (sym (ap (row_for d) was ∙ row_more d xs k ys none)))

  none_at : place_for k.doc (pb ++ pr) ≡ None
  none_at = ap (place_for k.doc) (sym at_now) ∙ none_of (place_for k.doc (places_of after)) (some_both k.doc after ∙ ap is_some (ap (row_for k.doc) now ∙ none))
    where
      none_of : {A : Type 0} (o : Option A) → is_some o ≡ false → o ≡ None
      none_of None e = refl
      none_of (Some x) e = cc

  pub places_without : (d : ℕ) → place_for d (places_of after) ≡ cond (k.doc == d) None (place_for d (places_of rows))
  places_without d =
      let o = place_for d (pb ++ pr) in
      ap (place_for d) at_now ∙ (out (k.doc == d) (Some h) o (λ same. ap (λ (m : ℕ). place_for m (pb ++ pr)) (sym (eqb-true k.doc d same)) ∙ none_at)
      ∙ ap (λ (x : Option Address). cond (k.doc == d) None x) (sym (ap (place_for d) at_was ∙ look_more k.doc d h pb pr none_at)))

-- the directory without the document, where its pages are those of the rows
pub directory_without : (dir mid dir' : RowDir) (rows after : List RowPage) (doc : DocId) → IsDirectory dir rows → mid.places.entries ≡ dir.places.entries → mid.docs.items ≡ dir.docs.items
    → mid.pages.entries ≡ rooms_of after → IsDistinct nat_eq (keys_of mid.pages.entries) → AreFull (take mid.full mid.pages.entries) → ForgetsRow doc mid dir'
    → ((d : ℕ) → place_for d (places_of after) ≡ cond (nat_eq doc.0 d) None (place_for d (places_of rows))) → IsDirectory dir' after
directory_without dir mid dir' rows after doc d same same_docs rooms each_once full forgets places = record {
  finds = λ m.
      ap (option_map address_of) (forgets.finds m ∙ ap (λ (es : List (ℕ × Addr)). cond (nat_eq doc.0 m) None (lookup (nat_eq m) es)) same)
      ∙ (none_cond address_of (nat_eq doc.0 m) (get nat_eq dir.places m) ∙ (ap (λ (o : Option Address). cond (nat_eq doc.0 m) None o) (d.finds m) ∙ sym (places m)));
  rooms = forgets.pages ∙ rooms;
  full = subst (λ es. AreFull (take dir'.full es)) (sym forgets.pages) (subst (λ f. AreFull (take f mid.pages.entries)) (sym forgets.full) full);
  docs = forgets.docs (ap numbers same_docs ∙ (d.docs ∙ ap keys_of (sym same)));
  once = forgets.once;
  each_once = subst (λ es. IsDistinct nat_eq (keys_of es)) (sym forgets.pages) each_once;
}
  where
    none_cond : {A B : Type 0} (f : A → B) (b : Bool) (o : Option A) → option_map f (cond b None o) ≡ cond b None (option_map f o)
    none_cond f true o = refl
    none_cond f false o = refl

-- ---- rooms

clash : false ≡ true → ⊥
clash h = cc

other_key : (b : ℕ × ℕ) (before : List (ℕ × ℕ)) (n f : ℕ) (behind : List (ℕ × ℕ)) → IsDistinct nat_eq (keys_of (b ∷ before ++ (n, f) ∷ behind)) → (n == b.0) ≡ false
unfolding IsDistinct
other_key b before n f behind once = ne_eqb n b.0 (λ e. absurd (clash (sym (all_at (λ y. nat_eq b.0 y ≡ false) before n f behind once.0) ∙ eq-eqb b.0 n (sym e))))

pub room_there : (before : List (ℕ × ℕ)) (n f : ℕ) (behind : List (ℕ × ℕ)) → IsDistinct nat_eq (keys_of (before ++ (n, f) ∷ behind)) → lookup (nat_eq n) (before ++ (n, f) ∷ behind) ≡ Some f
unfolding IsDistinct
room_there [] n f behind once = ap (λ (b : Bool). cond b (Some f) (lookup (nat_eq n) behind)) (eq-eqb n n refl)
room_there (b ∷ before) n f behind once = ap (λ (c : Bool). cond c (Some b.1) (lookup (nat_eq n) (before ++ (n, f) ∷ behind))) (other_key b before n f behind once) ∙ room_there before n f behind once.1

pub remove_there : (before : List (ℕ × ℕ)) (n f : ℕ) (behind : List (ℕ × ℕ)) → IsDistinct nat_eq (keys_of (before ++ (n, f) ∷ behind)) → shift_remove_entry (nat_eq n) (before ++ (n, f) ∷ behind) ≡ before ++ behind
unfolding IsDistinct
remove_there [] n f behind once = ap (λ (b : Bool). cond b behind ((n, f) ∷ shift_remove_entry (nat_eq n) behind)) (eq-eqb n n refl)
remove_there (b ∷ before) n f behind once =
    ap (λ (c : Bool). cond c (before ++ (n, f) ∷ behind) (b ∷ shift_remove_entry (nat_eq n) (before ++ (n, f) ∷ behind))) (other_key b before n f behind once)
    ∙ ap (λ (es : List (ℕ × ℕ)). b ∷ es) (remove_there before n f behind once.1)

-- ---- a slot freed

module _ (old new : Pages) (bs : List RowPage) (n : ℕ) (ss ts : List (Option Keyed)) (cs : List RowPage) (dir mid dir' : RowDir) (k : Keyed) (doc : DocId) (place : Addr) (free : ℕ)
    (is : IsRows old row_base (bs ++ page_of n (ss ++ Some k ∷ ts) ∷ cs)) (can : CanChange (bs ++ page_of n (ss ++ Some k ∷ ts) ∷ cs) old) (d : IsDirectory dir (bs ++ page_of n (ss ++ Some k ∷ ts) ∷ cs))
    (in_page : place.page.0 ≡ n) (at : place.at ≡ 52 + 40 * length ss) (its : k.doc ≡ doc.0) (free_is : get nat_eq dir.pages place.page.0 ≡ Some free) (others : free + 1 < 408)
    (sets : SetsSlotTo (address_of place) None (407 - free) old new) (frees : FreesSlot place.page.0 (free + 1) dir mid) (forgets : ForgetsRow doc mid dir') where
  around : rows_of (bs ++ page_of n (ss ++ Some k ∷ ts) ∷ cs) ≡ rows_before bs ss ++ k ∷ rows_behind ts cs
  around = rows_around bs n ss (Some k) ts cs

  around' : rows_of (bs ++ page_of n (ss ++ None ∷ ts) ∷ cs) ≡ rows_before bs ss ++ rows_behind ts cs
  around' = rows_around bs n ss None ts cs

  entries_are : dir.pages.entries ≡ rooms_of bs ++ (n, free_in (ss ++ Some k ∷ ts)) ∷ rooms_of cs
  entries_are = d.rooms ∙ rooms_join bs (page_of n (ss ++ Some k ∷ ts) ∷ cs)

  distinct : IsDistinct nat_eq (keys_of (rooms_of bs ++ (n, free_in (ss ++ Some k ∷ ts)) ∷ rooms_of cs))
  distinct = subst (λ es. IsDistinct nat_eq (keys_of es)) entries_are d.each_once

  free_known : free_in (ss ++ Some k ∷ ts) ≡ free
  free_known =
      let r = room_there (rooms_of bs) n (free_in (ss ++ Some k ∷ ts)) (rooms_of cs) distinct in
      let e : Some (free_in (ss ++ Some k ∷ ts)) ≡ Some free = sym r ∙ (ap₂ (λ (es : List (ℕ × ℕ)) (m : ℕ). lookup (nat_eq m) es) (sym entries_are) (sym in_page) ∙ free_is) in
      cc

  free_now : free_in (ss ++ None ∷ ts) ≡ free + 1
  free_now = let a = free_join ss (Some k ∷ ts) in let b = free_join ss (None ∷ ts) in let e = free_known in omega (arith, a, b, e)

  counted : 407 - free ≡ length (somes (ss ++ None ∷ ts))
  counted =
      let m = (are_split old bs (page_of n (ss ++ Some k ∷ ts)) cs is.each).1.many in
      let i = length-append ss (None ∷ ts) in let j = length-append ss (Some k ∷ ts) in
      let s = all_slots (ss ++ None ∷ ts) in let f = free_now in omega (arith, m, i, j, s, f, others)

  once_now : AreOnce (rows_of (bs ++ page_of n (ss ++ None ∷ ts) ∷ cs))
  once_now = once_without (bs ++ page_of n (ss ++ Some k ∷ ts) ∷ cs) (bs ++ page_of n (ss ++ None ∷ ts) ∷ cs) (rows_before bs ss) (rows_behind ts cs) k (places_before bs n ss) (places_behind n ss ts cs) (record { page = n; at = 52 + 40 * length ss })
      around around' (places_around bs n ss (Some k) ts cs) (places_around bs n ss None ts cs) is.once

  mid_rooms : mid.pages.entries ≡ rooms_of (bs ++ page_of n (ss ++ None ∷ ts) ∷ cs)
  mid_rooms =
      frees.pages ∙ (ap₂ (λ (es : List (ℕ × ℕ)) (m : ℕ). insert_entry nat_eq es m (free + 1)) entries_are in_page
      ∙ (insert_there (rooms_of bs) n (free_in (ss ++ Some k ∷ ts)) (free + 1) (rooms_of cs) distinct
      ∙ (ap (λ (f : ℕ). rooms_of bs ++ (n, f) ∷ rooms_of cs) (sym free_now) ∙ sym (rooms_join bs (page_of n (ss ++ None ∷ ts) ∷ cs)))))

  mid_full : AreFull (take mid.full mid.pages.entries)
  mid_full =
      let low = frees.first (rooms_of bs) (rooms_of cs) (free_in (ss ++ Some k ∷ ts)) (entries_are ∙ ap (λ (m : ℕ). rooms_of bs ++ (m, free_in (ss ++ Some k ∷ ts)) ∷ rooms_of cs) (sym in_page)) in
      let was = subst (λ es. AreFull (take dir.full es)) entries_are d.full in
      subst (λ es. AreFull (take mid.full es)) (sym (mid_rooms ∙ rooms_join bs (page_of n (ss ++ None ∷ ts) ∷ cs)))
      (full_less (rooms_of bs) ((n, free_in (ss ++ Some k ∷ ts)) ∷ rooms_of cs) ((n, free_in (ss ++ None ∷ ts)) ∷ rooms_of cs) dir.full mid.full was frees.low low)

  pub cleared_there : RemovesRow doc.0 dir' (bs ++ page_of n (ss ++ Some k ∷ ts) ∷ cs) old new × (free_of new ≡ free_of old)
  cleared_there =
      let rows = bs ++ page_of n (ss ++ Some k ∷ ts) ∷ cs in
      let after = bs ++ page_of n (ss ++ None ∷ ts) ∷ cs in
      let a : Address = record { page = n; at = 52 + 40 * length ss } in
      let some : 1 ≤ 407 - free = omega (arith, others) in
      let S : ℕ → Type 0 = λ m. (e : ℕ) → row_for e (rows_of after) ≡ cond (m == e) None (row_for e (rows_of rows)) in
      let P : ℕ → Type 0 = λ m. (e : ℕ) → place_for e (places_of after) ≡ cond (nat_eq m e) None (place_for e (places_of rows)) in
      let shows = shows_without rows after (rows_before bs ss) (rows_behind ts cs) k (places_before bs n ss) (places_behind n ss ts cs) a around around' (places_around bs n ss (Some k) ts cs) (places_around bs n ss None ts cs) is.once in
      let places = places_without rows after (rows_before bs ss) (rows_behind ts cs) k (places_before bs n ss) (places_behind n ss ts cs) a around around' (places_around bs n ss (Some k) ts cs) (places_around bs n ss None ts cs) is.once in (
        removes_row rows after (span n (52 + 40 * length ss) 40 ∷ span n 50 2 ∷ []) old new
            (slot_moved old new bs n ss (Some k) None ts cs (address_of place) (407 - free) is can sets in_page at counted some once_now) doc.0 dir'
            (directory_without dir mid dir' rows after doc d frees.places frees.docs mid_rooms frees.each_once mid_full forgets (subst P its places)) (subst S its shows),
        slot_free_kept old new bs n ss (Some k) None ts cs (address_of place) (407 - free) is can sets in_page at counted some once_now,
      )

pub cleared : (old new : Pages) (rows : List RowPage) (dir mid dir' : RowDir) (doc : DocId) (place : Addr) (free : ℕ) → IsRows old row_base rows → CanChange rows old → IsDirectory dir rows → get nat_eq dir.places doc.0 ≡ Some place
    → get nat_eq dir.pages place.page.0 ≡ Some free → free + 1 < 408 → SetsSlotTo (address_of place) None (407 - free) old new → FreesSlot place.page.0 (free + 1) dir mid → ForgetsRow doc mid dir'
    → RemovesRow doc.0 dir' rows old new × (free_of new ≡ free_of old)
cleared old new rows dir mid dir' doc place free is can d has room others sets frees forgets =
    let s = slot_of_doc doc.0 rows (address_of place) (sym (d.finds doc.0) ∙ ap (option_map address_of) has) in
    let Q : List RowPage → Type 0 = λ rs. IsRows old row_base rs × CanChange rs old × IsDirectory dir rs in
    let q = subst Q s.split (is, can, d) in
    let T : List RowPage → Type 0 = λ rs. RemovesRow doc.0 dir' rs old new × (free_of new ≡ free_of old) in
    subst T (sym s.split) (cleared_there old new s.bs s.n s.ss s.ts s.cs dir mid dir' s.k doc place free q.0 q.1 q.2 s.page s.at s.doc room others sets frees forgets)
