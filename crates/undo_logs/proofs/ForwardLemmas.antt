-- The record at a place, or the first behind it.
use Rattle.std.proofs.Common.{◌≡◌, ◌⊎◌, inl, inr, ℕ, ◌<◌, List, [], ◌∷◌, ◌++◌, Some, None, refl, sym, ap, ap₂, ◌∙◌, subst, arith}
use Rattle.std.proofs.lemmas.List.{append_assoc}
use Rattle.page_model.specs.Pages.{Pages, Address, null_address}
use Rattle.page_model.specs.Lists.{IsList, first_of, or_null}
use Rattle.undo_model.specs.Data.{Entry, Part, Log}
use Rattle.undo_model.specs.Logs.{node_of, nodes_in, records_in, pages_base, end_field, IsFilled, AreParts, HasRecord}
use Rattle.undo_model.specs.LogSteps.{oldest}
use Rattle.undo_model.proofs.OptionLemmas.{some_some, not_some}
use Rattle.undo_logs.specs.Forward.{CutsAt, from_here}

-- ---- one page

filled_end : (page start a b : ℕ) (ys : List Entry) → IsFilled page start a ys → IsFilled page start b ys → a ≡ b
filled_end page start a b [] one two = one ∙ sym two
filled_end page start a b (y ∷ ys) one two = sym one.1 ∙ two.1

-- the records behind a place fill the page from there on
pub filled_over : (page start at end : ℕ) (xs ys : List Entry) → IsFilled page start end (xs ++ ys) → IsFilled page start at ys → IsFilled page at end xs
filled_over page start at end [] ys all before = filled_end page start end at ys all before
filled_over page start at end (x ∷ xs) ys all before = (all.0, all.1, filled_over page start at x.at.at xs ys all.2 before)

address_is : (a : Address) (page at : ℕ) → a.page ≡ page → a.at ≡ at → a ≡ (let b : Address = record { page = page; at = at } in b)
address_is a page at ep ea = ap₂ (λ (p q : ℕ). let b : Address = record { page = p; at = q } in b) ep ea

-- the oldest of them stands there
pub filled_oldest : (page at end : ℕ) (x : Entry) (xs : List Entry) → IsFilled page at end (x ∷ xs) → (oldest (x ∷ xs) ≡ Some (let a : Address = record { page = page; at = at } in a)) × (at < end)
filled_oldest page at end x [] filled = let s = filled.1 in let e = filled.2 in (ap (λ (a : Address). Some a) (address_is x.at page at filled.0 e), omega (arith, s, e))
filled_oldest page at end x (y ∷ ys) filled = let s = filled.1 in let r = filled_oldest page at x.at.at y ys filled.2 in let b = r.1 in (r.0, omega (arith, s, b))

-- ---- lists of records and of nodes

pub oldest_join : (rs : List Entry) (y : Entry) (ys : List Entry) → oldest (rs ++ y ∷ ys) ≡ oldest (y ∷ ys)
oldest_join [] y ys = refl
oldest_join (r ∷ []) y ys = refl
oldest_join (r ∷ s ∷ rs) y ys = oldest_join (s ∷ rs) y ys

pub oldest_skip : (rs zs : List Entry) (a : Address) → oldest zs ≡ Some a → oldest (rs ++ zs) ≡ Some a
oldest_skip rs [] a is = absurd (not_some a is)
oldest_skip rs (z ∷ zs) a is = oldest_join rs z zs ∙ is

pub append_none : {A : Type 0} (xs : List A) → xs ++ [] ≡ xs
append_none [] = refl
append_none (x ∷ xs) = ap (λ ys. x ∷ ys) (append_none xs)

pub first_kept : (xs ys : List Address) (a : Address) → first_of xs ≡ Some a → first_of (xs ++ ys) ≡ Some a
first_kept [] ys a is = absurd (not_some a is)
first_kept (x ∷ xs) ys a is = is

-- the nodes of older pages, the page's, and those of newer ones
pub nodes_cut : (newer : List Part) (p : Part) (older : List Part) → nodes_in (newer ++ p ∷ older) ≡ nodes_in older ++ node_of p.page ∷ nodes_in newer
nodes_cut [] p older = refl
nodes_cut (n ∷ newer) p older = ap (λ (ns : List Address). ns ++ node_of n.page ∷ []) (nodes_cut newer p older) ∙ append_assoc (nodes_in older) (node_of p.page ∷ nodes_in newer) (node_of n.page ∷ [])

-- the first of the newer pages begins with their oldest record
abbrev pub Turns : List Part → Type 0
Turns newer = (q : ℕ) × (first_of (nodes_in newer) ≡ Some (node_of q)) × (oldest (records_in newer) ≡ Some (let a : Address = record { page = q; at = 56 } in a))

begins_page : (page end : ℕ) (records : List Entry) → HasRecord records → IsFilled page 56 end records → oldest records ≡ Some (let a : Address = record { page = page; at = 56 } in a)
begins_page page end [] some filled = absurd some
begins_page page end (x ∷ xs) some filled = (filled_oldest page 56 end x xs filled).0

pub turns : (pages : Pages) (first : ℕ) (newer : List Part) (p : Part) (older : List Part) → AreParts pages first (newer ++ p ∷ older) → (newer ≡ []) ⊎ Turns newer
turns pages first [] p older are = inl refl
turns pages first (n ∷ []) p older are =
    let part = are.0.part in
    inr (n.page, refl, ap oldest (append_none n.records) ∙ begins_page n.page (end_field pages n.page) n.records are.0.some part.filled)
turns pages first (n ∷ m ∷ newer) p older are = elim (turns pages first (m ∷ newer) p older are.1) [
  | inl none ↦ absurd (let e : (m ∷ newer) ≡ [] = none in cc)
  | inr t ↦ inr (t.0, first_kept (nodes_in (m ∷ newer)) (node_of n.page ∷ []) (node_of t.0) t.1, oldest_skip n.records (records_in (m ∷ newer)) (record { page = t.0; at = 56 }) t.2)
]

-- ---- at a place

module _ (pages : Pages) (l : Log) (page at : ℕ) (c : CutsAt l page at pages) where
  parts_here : AreParts pages l.page (c.newer ++ c.part ∷ c.older)
  parts_here = subst (AreParts pages l.page) c.parts c.stands.parts

  list_here : IsList pages (pages_base l.page) (nodes_in c.older ++ node_of c.part.page ∷ nodes_in c.newer)
  list_here = subst (IsList pages (pages_base l.page)) (nodes_cut c.newer c.part c.older) (subst (λ (ps : List Part). IsList pages (pages_base l.page) (nodes_in ps)) c.parts c.stands.list)

  -- the page's node in the list
  pub node_here : IsList pages (pages_base l.page) (nodes_in c.older ++ node_of page ∷ nodes_in c.newer)
  node_here = subst (λ (n : ℕ). IsList pages (pages_base l.page) (nodes_in c.older ++ node_of n ∷ nodes_in c.newer)) c.same_page list_here

  behind_fills : IsFilled c.part.page at (end_field pages c.part.page) c.behind
  behind_fills = filled_over c.part.page c.start at (end_field pages c.part.page) c.behind c.before (subst (IsFilled c.part.page c.start (end_field pages c.part.page)) c.records c.fills.filled) c.filled

  in_page : (xs : List Entry) → IsFilled c.part.page at (end_field pages c.part.page) xs → at < end_field pages c.part.page → oldest (records_in c.newer ++ xs) ≡ Some (let a : Address = record { page = c.part.page; at = at } in a)
  in_page [] filled below = absurd (omega (arith, filled, below))
  in_page (x ∷ xs) filled below = oldest_join (records_in c.newer) x xs ∙ (filled_oldest c.part.page at (end_field pages c.part.page) x xs filled).0

  -- on the page
  pub found_here : at < end_field pages page → (let a : Address = record { page = page; at = at } in a) ≡ or_null (oldest (from_here c))
  found_here below =
      let b : at < end_field pages c.part.page = let e = ap (end_field pages) c.same_page in omega (arith, e, below) in
      let o = in_page c.behind behind_fills b in
      ap (λ (n : ℕ). let a : Address = record { page = n; at = at } in a) (sym c.same_page) ∙ sym (ap or_null o)

  none_left : (xs : List Entry) → IsFilled c.part.page at (end_field pages c.part.page) xs → (at < end_field pages c.part.page → ⊥) → xs ≡ []
  none_left [] filled past = refl
  none_left (x ∷ xs) filled past = absurd (past (filled_oldest c.part.page at (end_field pages c.part.page) x xs filled).1)

  all_newer : (at < end_field pages page → ⊥) → oldest (from_here c) ≡ oldest (records_in c.newer)
  all_newer past =
      let none : c.behind ≡ [] = none_left c.behind behind_fills (λ b. past (let e = ap (end_field pages) c.same_page in omega (arith, e, b))) in
      ap oldest (ap (λ (xs : List Entry). records_in c.newer ++ xs) none ∙ append_none (records_in c.newer))

  -- on the page that was added next
  pub found_next : (a : Address) → (at < end_field pages page → ⊥) → Some a ≡ first_of (nodes_in c.newer) → (let b : Address = record { page = a.page; at = 56 } in b) ≡ or_null (oldest (from_here c))
  found_next a past is = elim (turns pages l.page c.newer c.part c.older parts_here) [
    | inl none ↦ absurd (not_some a (sym (is ∙ ap (λ (ps : List Part). first_of (nodes_in ps)) none)))
    | inr t ↦ ap (λ (x : Address). let b : Address = record { page = x.page; at = 56 } in b) (some_some a (node_of t.0) (is ∙ t.1)) ∙ sym (ap or_null (all_newer past ∙ t.2))
  ]

  pub at_next : (a : Address) → Some a ≡ first_of (nodes_in c.newer) → a.at ≡ 38
  at_next a is = elim (turns pages l.page c.newer c.part c.older parts_here) [
    | inl none ↦ absurd (not_some a (sym (is ∙ ap (λ (ps : List Part). first_of (nodes_in ps)) none)))
    | inr t ↦ ap (λ (x : Address). x.at) (some_some a (node_of t.0) (is ∙ t.1))
  ]

  -- nowhere
  pub found_none : (at < end_field pages page → ⊥) → None ≡ first_of (nodes_in c.newer) → null_address ≡ or_null (oldest (from_here c))
  found_none past is = elim (turns pages l.page c.newer c.part c.older parts_here) [
    | inl none ↦ sym (ap or_null (all_newer past ∙ ap (λ (ps : List Part). oldest (records_in ps)) none))
    | inr t ↦ absurd (not_some (node_of t.0) (is ∙ t.1))
  ]
