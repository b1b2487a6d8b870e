-- A row put over that of its document, and one put on a page of its own.
use Rattle.std.proofs.Common.{◌≡◌, ◌⊎◌, inl, inr, ℕ, zero, suc, ◌+◌, ◌*◌, ◌≤◌, ◌==◌, nat_eq, Bool, true, false, cond, List, [], ◌∷◌, ◌++◌, length, take, replicate, Option, Some, None, is_some, refl, sym, ap, ap₂, subst, ◌∙◌, arith}
use Rattle.std.specs.Option.{option_map}
use Rattle.std.proofs.lemmas.List.{length-append, append-nil}
use Rattle.std.proofs.lemmas.Bool.{cases_Bool, eqb-true, ne_eqb}
use Rattle.indexmap.specs.IndexMap.{get, insert_entry}
use Rattle.page_model.specs.Pages.{Pages, Address, field}
use Rattle.page_model.specs.Spans.{span}
use Rattle.page_model.proofs.FrameLemmas.{field_kept, outside_wider}
use Rattle.page_space.specs.Map.{free_of}
use Rattle.engine_base.specs.Addresses.{address_of}
use Rattle.engine_base.specs.declared.addr.Addr.{Addr}
use Rattle.engine_base.specs.declared.ids.DocId.{DocId}
use Rattle.undo_model.specs.Data.{Row}
use Rattle.undo_model.specs.Rows.{Keyed, RowPage, IsNew, AreOnce, IsRowPage, IsRows, row_base, somes, rows_of, row_for}
use Rattle.row_dir.specs.declared.dir.RowDir.{RowDir}
use Rattle.row_dir.specs.Slots.{slot_span, SetsSlot}
use Rattle.row_dir.specs.Directory.{free_in, rooms_of, places_in, places_of, place_for, AreFull, IsDirectory, numbers}
use Rattle.row_dir.specs.Notes.{NotesRow}
use Rattle.row_dir.specs.RowPages.{SetsSlotTo, CanChange, OpensPage, page_of}
use Rattle.row_dir.specs.Puts.{PutsRow}
use Rattle.row_dir.proofs.PlainLemmas.{puts_row}
use Rattle.row_dir.proofs.RowsLemmas.{rows_before, rows_behind, rows_around, somes_join, places_join, places_before, places_behind, places_around, rows_join, look_more, once_more, once_less, none_of_new, row_more}
use Rattle.row_dir.proofs.FindLemmas.{some_both}
use Rattle.row_dir.proofs.ChangeLemmas.{NotIn, only_page, are_split, slot_moved, slot_free_kept}
use Rattle.row_dir.proofs.OpenLemmas.{none_somes}
use Rattle.row_dir.proofs.PutLemmas.{rooms_join, free_join, taken_before, numbers_pushed, map_cond}

-- ---- the slot of a document

pub record SlotOf (rows : List RowPage) (d : ℕ) (a : Address) : Type 0 where
  pub bs : List RowPage
  pub n : ℕ
  pub ss : List (Option Keyed)
  pub k : Keyed
  pub ts : List (Option Keyed)
  pub cs : List RowPage
  pub split : rows ≡ bs ++ page_of n (ss ++ Some k ∷ ts) ∷ cs
  pub page : a.page ≡ n
  pub at : a.at ≡ 52 + 40 * length ss
  pub doc : k.doc ≡ d

record InSlots (slots : List (Option Keyed)) (d n at : ℕ) (a : Address) : Type 0 where
  ss : List (Option Keyed)
  k : Keyed
  ts : List (Option Keyed)
  split : slots ≡ ss ++ Some k ∷ ts
  page : a.page ≡ n
  place : a.at ≡ at + 40 * length ss
  doc : k.doc ≡ d

behind_one : (s : Option Keyed) (slots : List (Option Keyed)) (d n at : ℕ) (a : Address) → InSlots slots d n (at + 40) a → InSlots (s ∷ slots) d n at a
behind_one s slots d n at a i = record {
  ss = s ∷ i.ss;
  k = i.k;
  ts = i.ts;
  split = ap (λ (xs : List (Option Keyed)). s ∷ xs) i.split;
  page = i.page;
  place = (let p = i.place in omega (arith, p));
  doc = i.doc;
}

in_slots : (d n at : ℕ) (slots : List (Option Keyed)) (es : List (ℕ × Address)) (a : Address) → place_for d (places_in n at slots ++ es) ≡ Some a → InSlots slots d n at a ⊎ (place_for d es ≡ Some a)
in_slots d n at [] es a is = inr is
in_slots d n at (None ∷ slots) es a is = on (in_slots d n (at + 40) slots es a is)
  where
    on : InSlots slots d n (at + 40) a ⊎ (place_for d es ≡ Some a) → InSlots (None ∷ slots) d n at a ⊎ (place_for d es ≡ Some a)
    on (inl i) = inl (behind_one None slots d n at a i)
    on (inr e) = inr e
in_slots d n at (Some k ∷ slots) es a is =
    let h : Address = record { page = n; at = at } in
    elim (cases_Bool (k.doc == d)) [
      | inl same ↦
          let e : Some h ≡ Some a = sym (ap (λ (b : Bool). cond b (Some h) (place_for d (places_in n (at + 40) slots ++ es))) same) ∙ is in
          let q : a ≡ h = cc in
          inl (record { ss = []; k = k; ts = slots; split = refl; page = ap (λ (x : Address). x.page) q; place = ap (λ (x : Address). x.at) q ∙ (omega arith); doc = eqb-true k.doc d same })
      | inr other ↦ on (in_slots d n (at + 40) slots es a (sym (ap (λ (b : Bool). cond b (Some h) (place_for d (places_in n (at + 40) slots ++ es))) other) ∙ is))
    ]
  where
    on : InSlots slots d n (at + 40) a ⊎ (place_for d es ≡ Some a) → InSlots (Some k ∷ slots) d n at a ⊎ (place_for d es ≡ Some a)
    on (inl i) = inl (behind_one (Some k) slots d n at a i)
    on (inr e) = inr e

pub slot_of_doc : (d : ℕ) (rows : List RowPage) (a : Address) → place_for d (places_of rows) ≡ Some a → SlotOf rows d a
slot_of_doc d [] a is = cc
slot_of_doc d (p ∷ rows) a is = by (in_slots d p.page 52 p.slots (places_of rows) a is) (λ e. slot_of_doc d rows a e)
  where
    by : InSlots p.slots d p.page 52 a ⊎ (place_for d (places_of rows) ≡ Some a) → ((place_for d (places_of rows) ≡ Some a) → SlotOf rows d a) → SlotOf (p ∷ rows) d a
    by (inl i) more = record { bs = []; n = p.page; ss = i.ss; k = i.k; ts = i.ts; cs = rows; split = ap (λ (xs : List (Option Keyed)). page_of p.page xs ∷ rows) i.split; page = i.page; at = i.place; doc = i.doc }
    by (inr e) more =
        let r = more e in
        record { bs = p ∷ r.bs; n = r.n; ss = r.ss; k = r.k; ts = r.ts; cs = r.cs; split = ap (λ (xs : List RowPage). p ∷ xs) r.split; page = r.page; at = r.at; doc = r.doc }

-- ---- a row over that of its document

sets_alone : (a : Address) (k : Keyed) (old new : Pages) → 52 ≤ a.at → SetsSlot a k old new → SetsSlotTo a (Some k) (field old a.page 50 2) old new
sets_alone a k old new low sets = record {
  stands = λ l h. sets.stands;
  count = field_kept (slot_span a ∷ []) old new a.page 50 2 sets.outside (inr (inl (omega (arith, low))), tt);
  outside = outside_wider (slot_span a ∷ []) (slot_span a ∷ span a.page 50 2 ∷ []) old new (λ q j off. (off.0, tt)) sets.outside;
}

both_cond : {A : Type 0} (b : Bool) (x y z : A) → cond b x z ≡ cond b x (cond b y z)
both_cond true x y z = refl
both_cond false x y z = refl

module _ (old new : Pages) (bs : List RowPage) (n : ℕ) (ss ts : List (Option Keyed)) (cs : List RowPage) (dir : RowDir) (k0 k : Keyed) (a : Address)
    (is : IsRows old row_base (bs ++ page_of n (ss ++ Some k0 ∷ ts) ∷ cs)) (can : CanChange (bs ++ page_of n (ss ++ Some k0 ∷ ts) ∷ cs) old) (d : IsDirectory dir (bs ++ page_of n (ss ++ Some k0 ∷ ts) ∷ cs))
    (in_page : a.page ≡ n) (at : a.at ≡ 52 + 40 * length ss) (its : k0.doc ≡ k.doc) (sets : SetsSlot a k old new) where
  around : rows_of (bs ++ page_of n (ss ++ Some k0 ∷ ts) ∷ cs) ≡ rows_before bs ss ++ k0 ∷ rows_behind ts cs
  around = rows_around bs n ss (Some k0) ts cs

  around' : rows_of (bs ++ page_of n (ss ++ Some k ∷ ts) ∷ cs) ≡ rows_before bs ss ++ k ∷ rows_behind ts cs
  around' = rows_around bs n ss (Some k) ts cs

  less : AreOnce (rows_before bs ss ++ rows_behind ts cs) × IsNew k0.doc (rows_before bs ss ++ rows_behind ts cs)
  less = once_less (rows_before bs ss) k0 (rows_behind ts cs) (subst AreOnce around is.once)

  new_doc : IsNew k.doc (rows_before bs ss ++ rows_behind ts cs)
  new_doc = subst (λ m. IsNew m (rows_before bs ss ++ rows_behind ts cs)) its less.1

  once_now : AreOnce (rows_of (bs ++ page_of n (ss ++ Some k ∷ ts) ∷ cs))
  once_now = subst AreOnce (sym around') (once_more (rows_before bs ss) k (rows_behind ts cs) new_doc less.0)

  free_same : free_in (ss ++ Some k ∷ ts) ≡ free_in (ss ++ Some k0 ∷ ts)
  free_same = free_join ss (Some k ∷ ts) ∙ sym (free_join ss (Some k0 ∷ ts))

  some_same : length (somes (ss ++ Some k0 ∷ ts)) ≡ length (somes (ss ++ Some k ∷ ts))
  some_same =
      let a = ap length (somes_join ss (Some k ∷ ts)) in let b = ap length (somes_join ss (Some k0 ∷ ts)) in
      let c = length-append (somes ss) (k ∷ somes ts) in let e = length-append (somes ss) (k0 ∷ somes ts) in omega (arith, a, b, c, e)

  page_was : IsRowPage old (page_of n (ss ++ Some k0 ∷ ts))
  page_was = (are_split old bs (page_of n (ss ++ Some k0 ∷ ts)) cs is.each).1

  counted : field old a.page 50 2 ≡ length (somes (ss ++ Some k ∷ ts))
  counted = ap (λ (m : ℕ). field old m 50 2) in_page ∙ (page_was.count ∙ some_same)

  some_rows : 1 ≤ field old a.page 50 2
  some_rows = let c = counted in let s = some_same in let p = page_was.some in omega (arith, c, s, p)

  to : SetsSlotTo a (Some k) (field old a.page 50 2) old new
  to = sets_alone a k old new (omega (arith, at)) sets

  places_same : places_of (bs ++ page_of n (ss ++ Some k ∷ ts) ∷ cs) ≡ places_of (bs ++ page_of n (ss ++ Some k0 ∷ ts) ∷ cs)
  places_same =
      let h : Address = record { page = n; at = 52 + 40 * length ss } in
      places_around bs n ss (Some k) ts cs ∙ (ap (λ (m : ℕ). places_before bs n ss ++ (m, h) ∷ places_behind n ss ts cs) (sym its) ∙ sym (places_around bs n ss (Some k0) ts cs))

  rooms_same : rooms_of (bs ++ page_of n (ss ++ Some k ∷ ts) ∷ cs) ≡ rooms_of (bs ++ page_of n (ss ++ Some k0 ∷ ts) ∷ cs)
  rooms_same =
      rooms_join bs (page_of n (ss ++ Some k ∷ ts) ∷ cs) ∙ (ap (λ (f : ℕ). rooms_of bs ++ (n, f) ∷ rooms_of cs) free_same ∙ sym (rooms_join bs (page_of n (ss ++ Some k0 ∷ ts) ∷ cs)))

  pub replaced_there : PutsRow k dir (bs ++ page_of n (ss ++ Some k0 ∷ ts) ∷ cs) old new × (free_of new ≡ free_of old)
  replaced_there = (
    puts_row (bs ++ page_of n (ss ++ Some k0 ∷ ts) ∷ cs) (bs ++ page_of n (ss ++ Some k ∷ ts) ∷ cs) (span n (52 + 40 * length ss) 40 ∷ span n 50 2 ∷ []) old new
        (slot_moved old new bs n ss (Some k0) (Some k) ts cs a (field old a.page 50 2) is can to in_page at counted some_rows once_now) k dir
        (record {
          finds = λ m. d.finds m ∙ ap (place_for m) (sym places_same);
          rooms = d.rooms ∙ sym rooms_same;
          full = d.full;
          docs = d.docs;
          once = d.once;
          each_once = d.each_once;
        })
        (λ m.
        let o = row_for m (rows_before bs ss ++ rows_behind ts cs) in
        let less' = none_of_new k0.doc (rows_before bs ss ++ rows_behind ts cs) less.1 in
        let none = none_of_new k.doc (rows_before bs ss ++ rows_behind ts cs) new_doc in
        ap (row_for m) around' ∙ (row_more m (rows_before bs ss) k (rows_behind ts cs) none
        ∙ (both_cond (k.doc == m) (Some k.row) (Some k0.row) o
        ∙ ap (λ (x : Option Row). cond (k.doc == m) (Some k.row) x) (ap (λ (c : ℕ). cond (c == m) (Some k0.row) o) (sym its) ∙ sym (ap (row_for m) around ∙ row_more m (rows_before bs ss) k0 (rows_behind ts cs) less')))))
        (λ is_new. absurd (clash (rows_before bs ss) (subst (IsNew k.doc) around is_new))),
    slot_free_kept old new bs n ss (Some k0) (Some k) ts cs a (field old a.page 50 2) is can to in_page at counted some_rows once_now,
  )
    where
      clash : (xs : List Keyed) → IsNew k.doc (xs ++ k0 ∷ rows_behind ts cs) → ⊥
      clash [] new = new.0 its
      clash (x ∷ xs) new = clash xs new.1

pub replaced : (old new : Pages) (rows : List RowPage) (dir : RowDir) (k : Keyed) (place : Addr) → IsRows old row_base rows → CanChange rows old → IsDirectory dir rows → Some place ≡ get nat_eq dir.places k.doc
    → SetsSlot (address_of place) k old new → PutsRow k dir rows old new × (free_of new ≡ free_of old)
replaced old new rows dir k place is can d has sets =
    let s = slot_of_doc k.doc rows (address_of place) (sym (d.finds k.doc) ∙ ap (option_map address_of) (sym has)) in
    let Q : List RowPage → Type 0 = λ rs. IsRows old row_base rs × CanChange rs old × IsDirectory dir rs in
    let q = subst Q s.split (is, can, d) in
    let T : List RowPage → Type 0 = λ rs. PutsRow k dir rs old new × (free_of new ≡ free_of old) in
    subst T (sym s.split) (replaced_there old new s.bs s.n s.ss s.ts s.cs dir s.k k (address_of place) q.0 q.1 q.2 s.page s.at s.doc sets)

-- ---- a row on a page of its own

pub no_row : (rows : List RowPage) (dir : RowDir) (m : ℕ) → IsDirectory dir rows → get nat_eq dir.places m ≡ None → (row_for m (rows_of rows) ≡ None) × (place_for m (places_of rows) ≡ None)
no_row rows dir m d absent =
    let at : place_for m (places_of rows) ≡ None = sym (d.finds m) ∙ ap (option_map address_of) absent in
    (none_of (row_for m (rows_of rows)) (sym (some_both m rows) ∙ ap is_some at), at)
  where
    none_of : {A : Type 0} (o : Option A) → is_some o ≡ false → o ≡ None
    none_of None e = refl
    none_of (Some x) e = cc

none_places : (n at m : ℕ) → places_in n at (replicate m None) ≡ []
none_places n at zero = refl
none_places n at (suc m) = none_places n (at + 40) m

none_free : (m : ℕ) → free_in (replicate m None) ≡ m
none_free zero = refl
none_free (suc m) = let r = none_free m in omega (arith, r)

insert_last : (rows : List RowPage) (n f : ℕ) → NotIn n rows → insert_entry nat_eq (rooms_of rows) n f ≡ rooms_of rows ++ (n, f) ∷ []
insert_last [] n f out = refl
insert_last (p ∷ rows) n f out =
    let other : (n == p.page) ≡ false = ne_eqb n p.page (λ e. out.0 (sym e)) in
    rw other (ap (λ (xs : List (ℕ × ℕ)). (p.page, free_in p.slots) ∷ xs) (insert_last rows n f out.1))

pub opened_last : (old new : Pages) (rows : List RowPage) (dir dir' : RowDir) (k : Keyed) (doc : DocId) (place : Addr) (index : ℕ) → IsDirectory dir rows → AreFull dir.pages.entries → get nat_eq dir.places doc.0 ≡ None
    → k.doc ≡ doc.0 → place.at ≡ 52 → index ≡ length dir.pages.entries → OpensPage k rows place.page.0 old new → NotesRow doc place 407 index dir dir' → PutsRow k dir' rows old new
opened_last old new rows dir dir' k doc place index d full absent its at last opens notes =
    let n = place.page.0 in
    let page = page_of n (Some k ∷ replicate 407 None) in
    let none = no_row rows dir k.doc d (ap (λ (m : ℕ). get nat_eq dir.places m) its ∙ absent) in
    let h : Address = record { page = n; at = 52 } in
    let same : address_of place ≡ h = ap (λ (y : ℕ). let q : Address = record { page = n; at = y } in q) at in
    let places : places_of (rows ++ page ∷ []) ≡ places_of rows ++ (k.doc, h) ∷ [] = places_join rows (page ∷ []) ∙ ap (λ (xs : List (ℕ × Address)). places_of rows ++ (k.doc, h) ∷ (xs ++ [])) (none_places n 92 407) in
    let all : rows_of (rows ++ page ∷ []) ≡ rows_of rows ++ k ∷ [] = rows_join rows (page ∷ []) ∙ ap (λ (xs : List Keyed). rows_of rows ++ k ∷ (xs ++ [])) (none_somes 407) in
    let free : free_in (Some k ∷ replicate 407 None) ≡ 407 = none_free 407 in
    let out = (only_page rows page [] opens.moves.stands.list.apart.1).0 in
    let rooms : dir'.pages.entries ≡ rooms_of rows ++ (n, free_in (Some k ∷ replicate 407 None)) ∷ [] =
    notes.pages ∙ (ap (λ (es : List (ℕ × ℕ)). insert_entry nat_eq es n 407) d.rooms ∙ (insert_last rows n 407 out ∙ ap (λ (f : ℕ). rooms_of rows ++ (n, f) ∷ []) (sym free))) in
    let nil = append-nil (rows_of rows) in
    let nil' = append-nil (places_of rows) in
    puts_row rows (rows ++ page ∷ []) opens.spans old new opens.moves k dir'
    (record {
      finds = λ m.
          ap (option_map address_of) (notes.finds m) ∙ (map_cond address_of (nat_eq doc.0 m) place (get nat_eq dir.places m)
          ∙ (ap (λ (o : Option Address). cond (nat_eq doc.0 m) (Some (address_of place)) o) (d.finds m ∙ ap (place_for m) (sym nil'))
          ∙ (ap₂ (λ (x : ℕ) (y : Address). cond (x == m) (Some y) (place_for m (places_of rows ++ []))) (sym its) same
          ∙ sym (ap (place_for m) places ∙ look_more k.doc m h (places_of rows) [] (ap (place_for k.doc) nil' ∙ none.1)))));
      rooms = rooms ∙ sym (rooms_join rows (page ∷ []));
      full =
          (let t = taken_before (rooms_of rows) ((n, free_in (Some k ∷ replicate 407 None)) ∷ []) index (ap length (sym d.rooms) ∙ sym last) in
          subst (λ es. AreFull (take dir'.full es)) (sym rooms) (subst (λ m. AreFull (take m (rooms_of rows ++ (n, free_in (Some k ∷ replicate 407 None)) ∷ []))) (sym notes.full) (subst AreFull (sym t) (subst AreFull d.rooms full))));
      docs = ap numbers notes.docs ∙ (numbers_pushed dir.docs.items doc ∙ (ap (λ (ns : List ℕ). ns ++ doc.0 ∷ []) d.docs ∙ sym notes.keys));
      once = notes.once;
      each_once = notes.each_once;
    })
    (λ m.
    ap (row_for m) all ∙ (row_more m (rows_of rows) k [] (ap (row_for k.doc) nil ∙ none.0) ∙ ap (λ (o : Option Row). cond (k.doc == m) (Some k.row) o) (ap (row_for m) nil)))
    (λ is_new. inr (record { page = n; full = subst AreFull d.rooms full; now = refl }))
