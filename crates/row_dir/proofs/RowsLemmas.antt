-- The rows of row pages, where one slot changes.
use Rattle.std.proofs.Common.{◌≡◌, ◌⊎◌, inl, inr, ℕ, ◌+◌, ◌*◌, ◌==◌, Bool, true, false, cond, List, [], ◌∷◌, ◌++◌, length, map, Option, Some, None, refl, sym, ap, ◌∙◌, arith}
use Rattle.std.proofs.lemmas.List.{append_assoc}
use Rattle.std.proofs.lemmas.Bool.{cases_Bool, eqb-true, eq-eqb, ne_eqb}
use Rattle.std.specs.Map.{lookup}
use Rattle.page_model.specs.Pages.{Address}
use Rattle.undo_model.specs.Data.{Row}
use Rattle.undo_model.specs.Rows.{Keyed, RowPage, IsNew, AreOnce, somes, rows_of, row_for}
use Rattle.row_dir.specs.RowPages.{page_of}
use Rattle.row_dir.specs.Directory.{places_in, places_of}

-- ---- the page in the midst of others

pub rows_join : (bs cs : List RowPage) → rows_of (bs ++ cs) ≡ rows_of bs ++ rows_of cs
rows_join [] cs = refl
rows_join (b ∷ bs) cs = ap (λ (xs : List Keyed). somes b.slots ++ xs) (rows_join bs cs) ∙ sym (append_assoc (somes b.slots) (rows_of bs) (rows_of cs))

pub somes_join : (ss ts : List (Option Keyed)) → somes (ss ++ ts) ≡ somes ss ++ somes ts
somes_join [] ts = refl
somes_join (None ∷ ss) ts = somes_join ss ts
somes_join (Some k ∷ ss) ts = ap (λ (xs : List Keyed). k ∷ xs) (somes_join ss ts)

pub places_join : (bs cs : List RowPage) → places_of (bs ++ cs) ≡ places_of bs ++ places_of cs
places_join [] cs = refl
places_join (b ∷ bs) cs = ap (λ (xs : List (ℕ × Address)). places_in b.page 52 b.slots ++ xs) (places_join bs cs) ∙ sym (append_assoc (places_in b.page 52 b.slots) (places_of bs) (places_of cs))

pub places_in_join : (page at : ℕ) (ss ts : List (Option Keyed)) → places_in page at (ss ++ ts) ≡ places_in page at ss ++ places_in page (at + 40 * length ss) ts
places_in_join page at [] ts = ap (λ (n : ℕ). places_in page n ts) (omega arith)
places_in_join page at (None ∷ ss) ts = places_in_join page (at + 40) ss ts ∙ ap (λ (n : ℕ). places_in page (at + 40) ss ++ places_in page n ts) (omega arith)
places_in_join page at (Some k ∷ ss) ts =
    let a : Address = record { page = page; at = at } in
    ap (λ (xs : List (ℕ × Address)). (k.doc, a) ∷ xs) (places_in_join page (at + 40) ss ts ∙ ap (λ (n : ℕ). places_in page (at + 40) ss ++ places_in page n ts) (omega arith))

-- the rows before and behind one slot
abbrev pub rows_before : List RowPage → List (Option Keyed) → List Keyed
rows_before bs ss = rows_of bs ++ somes ss

abbrev pub rows_behind : List (Option Keyed) → List RowPage → List Keyed
rows_behind ts cs = somes ts ++ rows_of cs

pub rows_around : (bs : List RowPage) (n : ℕ) (ss : List (Option Keyed)) (x : Option Keyed) (ts : List (Option Keyed)) (cs : List RowPage)
    → rows_of (bs ++ page_of n (ss ++ x ∷ ts) ∷ cs) ≡ rows_before bs ss ++ (somes (x ∷ []) ++ rows_behind ts cs)
rows_around bs n ss x ts cs =
    rows_join bs (page_of n (ss ++ x ∷ ts) ∷ cs)
    ∙ (ap (λ (xs : List Keyed). rows_of bs ++ (xs ++ rows_of cs)) (somes_join ss (x ∷ ts) ∙ ap (λ (xs : List Keyed). somes ss ++ xs) (somes_join (x ∷ []) ts))
    ∙ (ap (λ (xs : List Keyed). rows_of bs ++ xs) (append_assoc (somes ss) (somes (x ∷ []) ++ somes ts) (rows_of cs) ∙ ap (λ (xs : List Keyed). somes ss ++ xs) (append_assoc (somes (x ∷ [])) (somes ts) (rows_of cs)))
    ∙ sym (append_assoc (rows_of bs) (somes ss) (somes (x ∷ []) ++ rows_behind ts cs))))

abbrev pub places_before : List RowPage → ℕ → List (Option Keyed) → List (ℕ × Address)
places_before bs n ss = places_of bs ++ places_in n 52 ss

abbrev pub places_behind : ℕ → List (Option Keyed) → List (Option Keyed) → List RowPage → List (ℕ × Address)
places_behind n ss ts cs = places_in n (52 + 40 * length ss + 40) ts ++ places_of cs

abbrev pub one_place : ℕ → List (Option Keyed) → Option Keyed → List (ℕ × Address)
one_place n ss x = places_in n (52 + 40 * length ss) (x ∷ [])

first_place : (n at : ℕ) (x : Option Keyed) (ts : List (Option Keyed)) → places_in n at (x ∷ ts) ≡ places_in n at (x ∷ []) ++ places_in n (at + 40) ts
first_place n at None ts = refl
first_place n at (Some k) ts = refl

pub places_around : (bs : List RowPage) (n : ℕ) (ss : List (Option Keyed)) (x : Option Keyed) (ts : List (Option Keyed)) (cs : List RowPage)
    → places_of (bs ++ page_of n (ss ++ x ∷ ts) ∷ cs) ≡ places_before bs n ss ++ (one_place n ss x ++ places_behind n ss ts cs)
places_around bs n ss x ts cs =
    let P : List (ℕ × Address) → List (ℕ × Address) = λ xs. places_of bs ++ xs in
    let a = places_in n 52 ss in
    let o = one_place n ss x in
    let r = places_in n (52 + 40 * length ss + 40) ts in
    places_join bs (page_of n (ss ++ x ∷ ts) ∷ cs)
    ∙ (ap (λ (xs : List (ℕ × Address)). places_of bs ++ (xs ++ places_of cs)) (places_in_join n 52 ss (x ∷ ts) ∙ ap (λ (xs : List (ℕ × Address)). a ++ xs) (first_place n (52 + 40 * length ss) x ts))
    ∙ (ap P (append_assoc a (o ++ r) (places_of cs) ∙ ap (λ (xs : List (ℕ × Address)). a ++ xs) (append_assoc o r (places_of cs)))
    ∙ sym (append_assoc (places_of bs) a (o ++ (r ++ places_of cs)))))

-- ---- looking up, where one entry is more or less

module _ {A : Type 0} (c d : ℕ) (v : A) where
  abbrev look : List (ℕ × A) → Option A
  look es = lookup (λ n. n == d) es

  -- an entry more, of a number that is new
  pub look_more : (xs ys : List (ℕ × A)) → lookup (λ n. n == c) (xs ++ ys) ≡ None → look (xs ++ (c, v) ∷ ys) ≡ cond (c == d) (Some v) (look (xs ++ ys))
  look_more [] ys none = refl
  look_more (x ∷ xs) ys none = elim (cases_Bool (x.0 == d)) [
    | inl here ↦ elim (cases_Bool (c == d)) [
      | inl same ↦ absurd (clash (eqb-true x.0 d here) (eqb-true c d same))
      | inr other ↦ rw (here, other) refl
    ]
    | inr there ↦ rw there (look_more xs ys (rest (cases_Bool (x.0 == c))))
  ]
    where
      clash : x.0 ≡ d → c ≡ d → ⊥
      clash p q =
          let e : (x.0 == c) ≡ true = eq-eqb x.0 c (p ∙ sym q) in
          some_none (ap (λ (b : Bool). cond b (Some x.1) (lookup (λ n. n == c) (xs ++ ys))) (sym e) ∙ none)
        where
          some_none : Some x.1 ≡ None → ⊥
          some_none h = cc

      rest : ((x.0 == c) ≡ true) ⊎ ((x.0 == c) ≡ false) → lookup (λ n. n == c) (xs ++ ys) ≡ None
      rest (inl e) = absurd (some_none (ap (λ (b : Bool). cond b (Some x.1) (lookup (λ n. n == c) (xs ++ ys))) (sym e) ∙ none))
        where
          some_none : Some x.1 ≡ None → ⊥
          some_none h = cc
      rest (inr e) = ap (λ (b : Bool). cond b (Some x.1) (lookup (λ n. n == c) (xs ++ ys))) (sym e) ∙ none

-- rows as entries by their documents
abbrev pub pairs : List Keyed → List (ℕ × Row)
pairs ks = map (λ (k : Keyed). (k.doc, k.row)) ks

pub rows_looked : (d : ℕ) (ks : List Keyed) → row_for d ks ≡ lookup (λ n. n == d) (pairs ks)
rows_looked d [] = refl
rows_looked d (k ∷ ks) = ap (λ (o : Option Row). cond (k.doc == d) (Some k.row) o) (rows_looked d ks)

pub pairs_join : (xs ys : List Keyed) → pairs (xs ++ ys) ≡ pairs xs ++ pairs ys
pairs_join [] ys = refl
pairs_join (x ∷ xs) ys = ap (λ (es : List (ℕ × Row)). (x.doc, x.row) ∷ es) (pairs_join xs ys)

-- a document that has no row is new
pub new_of : (d : ℕ) (ks : List Keyed) → row_for d ks ≡ None → IsNew d ks
new_of d [] none = tt
new_of d (k ∷ ks) none = elim (cases_Bool (k.doc == d)) [
  | inl same ↦ absurd (some_none (ap (λ (b : Bool). cond b (Some k.row) (row_for d ks)) (sym same) ∙ none))
  | inr other ↦ ((λ e. absurd (clash (sym other ∙ eq-eqb k.doc d e))), new_of d ks (ap (λ (b : Bool). cond b (Some k.row) (row_for d ks)) (sym other) ∙ none))
]
  where
    some_none : Some k.row ≡ None → ⊥
    some_none h = cc

    clash : false ≡ true → ⊥
    clash h = cc

pub new_split : (d : ℕ) (xs ys : List Keyed) → IsNew d (xs ++ ys) → IsNew d xs × IsNew d ys
new_split d [] ys is = (tt, is)
new_split d (x ∷ xs) ys is = let r = new_split d xs ys is.1 in ((is.0, r.0), r.1)

new_join : (d : ℕ) (xs ys : List Keyed) → IsNew d xs → IsNew d ys → IsNew d (xs ++ ys)
new_join d [] ys a b = b
new_join d (x ∷ xs) ys a b = (a.0, new_join d xs ys a.1 b)

-- each document once, with a new one more
pub once_more : (xs : List Keyed) (k : Keyed) (ys : List Keyed) → IsNew k.doc (xs ++ ys) → AreOnce (xs ++ ys) → AreOnce (xs ++ k ∷ ys)
once_more [] k ys new once = (new, once)
once_more (x ∷ xs) k ys new once =
    let s = new_split x.doc xs ys once.0 in (
      new_join x.doc xs (k ∷ ys) s.0 ((λ e. new.0 (sym e)), s.1),
      once_more xs k ys new.1 once.1,
    )

-- with one less
pub once_less : (xs : List Keyed) (k : Keyed) (ys : List Keyed) → AreOnce (xs ++ k ∷ ys) → AreOnce (xs ++ ys) × IsNew k.doc (xs ++ ys)
once_less [] k ys once = (once.1, once.0)
once_less (x ∷ xs) k ys once =
    let r = once_less xs k ys once.1 in
    let s = new_split x.doc xs (k ∷ ys) once.0 in (
      (new_join x.doc xs ys s.0 s.1.1, r.0),
      ((λ e. s.1.0 (sym e)), r.1),
    )

-- a new document has no row
pub none_of_new : (d : ℕ) (ks : List Keyed) → IsNew d ks → row_for d ks ≡ None
none_of_new d [] is = refl
none_of_new d (k ∷ ks) is = ap (λ (b : Bool). cond b (Some k.row) (row_for d ks)) (ne_eqb k.doc d is.0) ∙ none_of_new d ks is.1

-- ---- what a row more means for each document

pub row_more : (d : ℕ) (xs : List Keyed) (k : Keyed) (ys : List Keyed) → row_for k.doc (xs ++ ys) ≡ None → row_for d (xs ++ k ∷ ys) ≡ cond (k.doc == d) (Some k.row) (row_for d (xs ++ ys))
row_more d xs k ys none =
    let none' : lookup (λ n. n == k.doc) (pairs xs ++ pairs ys) ≡ None = ap (lookup (λ n. n == k.doc)) (sym (pairs_join xs ys)) ∙ (sym (rows_looked k.doc (xs ++ ys)) ∙ none) in
    rows_looked d (xs ++ k ∷ ys) ∙ (ap (lookup (λ n. n == d)) (pairs_join xs (k ∷ ys))
    ∙ (look_more k.doc d k.row (pairs xs) (pairs ys) none'
    ∙ ap (λ (o : Option Row). cond (k.doc == d) (Some k.row) o) (sym (rows_looked d (xs ++ ys) ∙ ap (lookup (λ n. n == d)) (pairs_join xs ys)))))
