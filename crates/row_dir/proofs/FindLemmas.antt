-- A document's place and its row are found together.
use Rattle.std.proofs.Common.{◌≡◌, ◌⊎◌, inl, inr, ℕ, ◌+◌, ◌==◌, nat_eq, Bool, true, false, cond, List, [], ◌∷◌, ◌++◌, Option, Some, None, is_some, refl, sym, ap, ap₂, subst, ◌∙◌, arith}
use Rattle.std.specs.Option.{option_map}
use Rattle.std.specs.List.{list_any}
use Rattle.std.specs.Map.{keys_of, lookup}
use Rattle.std.proofs.lemmas.Bool.{cases_Bool, eqb-true}
use Rattle.page_model.specs.Pages.{Pages, Address}
use Rattle.store_data.specs.Store.{RowState, absent, live, deleted}
use Rattle.undo_model.specs.Data.{Row, Reference}
use Rattle.undo_model.specs.Bytes.{state_code}
use Rattle.undo_model.specs.Rows.{Keyed, RowPage, IsRowAt, AreSlots, AreRowPages, somes, rows_of, row_for}
use Rattle.row_dir.specs.Directory.{places_in, places_of, place_for}

-- the document has a row, and its place is this
pub record Found (pages : Pages) (d : ℕ) (ks : List Keyed) (es : List (ℕ × Address)) : Type 0 where
  pub a : Address
  pub k : Keyed
  pub at : place_for d es ≡ Some a
  pub stands : IsRowAt pages a.page a.at k
  pub doc : k.doc ≡ d
  pub row : row_for d ks ≡ Some k.row

-- it has neither
pub record Missing (d : ℕ) (ks : List Keyed) (es : List (ℕ × Address)) : Type 0 where
  pub at : place_for d es ≡ None
  pub row : row_for d ks ≡ None

abbrev pub Located : Pages → ℕ → List Keyed → List (ℕ × Address) → Type 0
Located pages d ks es = Missing d ks es ⊎ Found pages d ks es

behind : (pages : Pages) (d : ℕ) (k : Keyed) (a : Address) (ks : List Keyed) (es : List (ℕ × Address)) → (k.doc == d) ≡ false → Located pages d ks es → Located pages d (k ∷ ks) ((k.doc, a) ∷ es)
behind pages d k a ks es other (inl m) = inl (record {
  at = ap (λ (b : Bool). cond b (Some a) (place_for d es)) other ∙ m.at;
  row = ap (λ (b : Bool). cond b (Some k.row) (row_for d ks)) other ∙ m.row;
})
behind pages d k a ks es other (inr f) = inr (record {
  a = f.a;
  k = f.k;
  at = ap (λ (b : Bool). cond b (Some a) (place_for d es)) other ∙ f.at;
  stands = f.stands;
  doc = f.doc;
  row = ap (λ (b : Bool). cond b (Some k.row) (row_for d ks)) other ∙ f.row;
})

here : (pages : Pages) (d : ℕ) (k : Keyed) (a : Address) (ks : List Keyed) (es : List (ℕ × Address)) → (k.doc == d) ≡ true → IsRowAt pages a.page a.at k → Located pages d (k ∷ ks) ((k.doc, a) ∷ es)
here pages d k a ks es same is = inr (record {
  a = a;
  k = k;
  at = ap (λ (b : Bool). cond b (Some a) (place_for d es)) same;
  stands = is;
  doc = eqb-true k.doc d same;
  row = ap (λ (b : Bool). cond b (Some k.row) (row_for d ks)) same;
})

slots_located : (pages : Pages) (d page at : ℕ) (slots : List (Option Keyed)) (ks : List Keyed) (es : List (ℕ × Address)) → AreSlots pages page at slots → Located pages d ks es
    → Located pages d (somes slots ++ ks) (places_in page at slots ++ es)
slots_located pages d page at [] ks es are rest = rest
slots_located pages d page at (None ∷ more) ks es are rest = slots_located pages d page (at + 40) more ks es are.1 rest
slots_located pages d page at (Some k ∷ more) ks es are rest =
    let a : Address = record { page = page; at = at } in
    elim (cases_Bool (k.doc == d)) [
      | inl same ↦ here pages d k a (somes more ++ ks) (places_in page (at + 40) more ++ es) same are.0
      | inr other ↦ behind pages d k a (somes more ++ ks) (places_in page (at + 40) more ++ es) other (slots_located pages d page (at + 40) more ks es are.1 rest)
    ]

-- a document of these row pages has a place and a row, or neither
pub located : (pages : Pages) (d : ℕ) (rows : List RowPage) → AreRowPages pages rows → Located pages d (rows_of rows) (places_of rows)
located pages d [] are = inl (record { at = refl; row = refl })
located pages d (p ∷ more) are = slots_located pages d p.page 52 p.slots (rows_of more) (places_of more) are.0.slots (located pages d more are.1)

-- ---- a document has a place exactly where it has a row

some_slots : (d page at : ℕ) (slots : List (Option Keyed)) (ks : List Keyed) (es : List (ℕ × Address)) → is_some (place_for d es) ≡ is_some (row_for d ks)
    → is_some (place_for d (places_in page at slots ++ es)) ≡ is_some (row_for d (somes slots ++ ks))
some_slots d page at [] ks es rest = rest
some_slots d page at (None ∷ more) ks es rest = some_slots d page (at + 40) more ks es rest
some_slots d page at (Some k ∷ more) ks es rest = elim (cases_Bool (k.doc == d)) [
  | inl same ↦ rw same refl
  | inr other ↦ rw other (some_slots d page (at + 40) more ks es rest)
]

pub some_both : (d : ℕ) (rows : List RowPage) → is_some (place_for d (places_of rows)) ≡ is_some (row_for d (rows_of rows))
some_both d [] = refl
some_both d (p ∷ more) = some_slots d p.page 52 p.slots (rows_of more) (places_of more) (some_both d more)

some_any : {A : Type 0} (test : ℕ → Bool) (es : List (ℕ × A)) → list_any test (keys_of es) ≡ is_some (lookup test es)
some_any test [] = refl
some_any test (e ∷ es) = elim (cases_Bool (test e.0)) [
  | inl same ↦ rw same refl
  | inr other ↦ rw other (some_any test es)
]

some_map : {A B : Type 0} (f : A → B) (o : Option A) → is_some (option_map f o) ≡ is_some o
some_map f None = refl
some_map f (Some x) = refl

-- the documents of a directory are those that have a row
pub listed : {A : Type 0} (f : A → Address) (ds : List ℕ) (es : List (ℕ × A)) (d : ℕ) (rows : List RowPage) → ds ≡ keys_of es → option_map f (lookup (nat_eq d) es) ≡ place_for d (places_of rows)
    → list_any (nat_eq d) ds ≡ is_some (row_for d (rows_of rows))
listed f ds es d rows same finds =
    ap (list_any (nat_eq d)) same ∙ some_any (nat_eq d) es ∙ sym (some_map f (lookup (nat_eq d) es)) ∙ ap is_some finds ∙ some_both d rows

-- ---- one row at a place

reference_same : (s s' p p' v v' l l' : ℕ) → s ≡ s' → p ≡ p' → v ≡ v' → l ≡ l'
    → (let r : Reference = record { space = s; page = p; version = v; length = l } in r) ≡ (let r : Reference = record { space = s'; page = p'; version = v'; length = l' } in r)
reference_same s s' p p' v v' l l' a b c d =
    ap₂ (λ (x y : ℕ). let r : Reference = record { space = x; page = y; version = v; length = l } in r) a b
    ∙ ap₂ (λ (x y : ℕ). let r : Reference = record { space = s'; page = p'; version = x; length = y } in r) c d

state_same : (s s' : RowState) → state_code s ≡ state_code s' → s ≡ s'
state_same absent absent e = refl
state_same absent live e = absurd (omega (arith, e))
state_same absent deleted e = absurd (omega (arith, e))
state_same live absent e = absurd (omega (arith, e))
state_same live live e = refl
state_same live deleted e = absurd (omega (arith, e))
state_same deleted absent e = absurd (omega (arith, e))
state_same deleted live e = absurd (omega (arith, e))
state_same deleted deleted e = refl

pub row_same : (pages : Pages) (page at : ℕ) (k k' : Keyed) → IsRowAt pages page at k → IsRowAt pages page at k' → k.row ≡ k'.row
row_same pages page at k k' one two =
    let lob = reference_same _ _ _ _ _ _ _ _ (sym one.space ∙ two.space) (sym one.first ∙ two.first) (sym one.version ∙ two.version) (sym one.length ∙ two.length) in
    ap₂ (λ (s : RowState) (t : ℕ). let r : Row = record { state = s; trx = t; roll = k.row.roll; lob = k.row.lob } in r) (state_same k.row.state k'.row.state (sym one.state ∙ two.state)) (sym one.trx ∙ two.trx)
    ∙ ap₂ (λ (n : ℕ) (l : Reference). let r : Row = record { state = k'.row.state; trx = k'.row.trx; roll = n; lob = l } in r) (sym one.roll ∙ two.roll) lob

-- ---- as a directory finds them

-- a document that has no place has no row
pub none_found : {A : Type 0} (f : A → Address) (o : Option A) (d : ℕ) (rows : List RowPage) → None ≡ o → option_map f o ≡ place_for d (places_of rows) → None ≡ row_for d (rows_of rows)
none_found f None d rows none finds = none_of (row_for d (rows_of rows)) (ap is_some finds ∙ some_both d rows)
  where
    none_of : (o : Option Row) → false ≡ is_some o → None ≡ o
    none_of None e = refl
    none_of (Some r) e = cc
none_found f (Some x) d rows none finds = cc

-- the row at the place of a document is its row
pub row_found : {A : Type 0} (f : A → Address) (o : Option A) (x : A) (d : ℕ) (pages : Pages) (rows : List RowPage) → AreRowPages pages rows → Some x ≡ o → option_map f o ≡ place_for d (places_of rows)
    → (k : Keyed) × IsRowAt pages (f x).page (f x).at k × (k.doc ≡ d) × (row_for d (rows_of rows) ≡ Some k.row)
row_found f o x d pages rows are some finds = by (located pages d rows are)
  where
    at : Some (f x) ≡ place_for d (places_of rows)
    at = ap (option_map f) some ∙ finds

    by : Located pages d (rows_of rows) (places_of rows) → (k : Keyed) × IsRowAt pages (f x).page (f x).at k × (k.doc ≡ d) × (row_for d (rows_of rows) ≡ Some k.row)
    by (inl m) = let e : Some (f x) ≡ None = at ∙ m.at in cc
    by (inr found) =
        let e : Some (f x) ≡ Some found.a = at ∙ found.at in
        let same : found.a ≡ f x = cc in
        let P : Address → Type 0 = λ a. IsRowAt pages a.page a.at found.k in
        (found.k, subst P same found.stands, found.doc, found.row)
