-- Pages hold one list of row pages at a base, and no other.
use Rattle.std.proofs.Common.{◌≡◌, ℕ, ◌+◌, List, [], ◌∷◌, length, Option, Some, None, refl, sym, ap, ap₂, subst, ◌∙◌, arith}
use Rattle.page_model.specs.Pages.{Pages, Address, address_at, null_address}
use Rattle.page_model.specs.Lists.{first_or, IsWalk}
use Rattle.store_data.specs.Store.{RowState, absent, live, deleted}
use Rattle.undo_model.specs.Bytes.{state_code}
use Rattle.undo_model.specs.Logs.{node_of}
use Rattle.undo_model.specs.Rows.{Keyed, RowPage, IsPresent, IsRowAt, AreSlots, AreRowPages, IsRows, row_nodes}

-- ---- one slot

one_state : (a b : RowState) → state_code a ≡ state_code b → a ≡ b
one_state absent absent same = refl
one_state absent live same = absurd (omega (arith, same))
one_state absent deleted same = absurd (omega (arith, same))
one_state live absent same = absurd (omega (arith, same))
one_state live live same = refl
one_state live deleted same = absurd (omega (arith, same))
one_state deleted absent same = absurd (omega (arith, same))
one_state deleted live same = absurd (omega (arith, same))
one_state deleted deleted same = refl

abbrev made : ℕ → RowState → ℕ → ℕ → ℕ → ℕ → ℕ → ℕ → Keyed
made doc state trx roll space page version len = record {
  doc = doc;
  row = record { state = state; trx = trx; roll = roll; lob = record { space = space; page = page; version = version; length = len } };
}

one_row : (pages : Pages) (page at : ℕ) (k m : Keyed) → IsRowAt pages page at k → IsRowAt pages page at m → k ≡ m
one_row pages page at k m a b =
    let r = k.row in
    let q = m.row in
    ap (λ x. made x r.state r.trx r.roll r.lob.space r.lob.page r.lob.version r.lob.length) (sym a.doc ∙ b.doc)
    ∙ (ap (λ x. made m.doc x r.trx r.roll r.lob.space r.lob.page r.lob.version r.lob.length) (one_state r.state q.state (sym a.state ∙ b.state))
    ∙ (ap (λ x. made m.doc q.state x r.roll r.lob.space r.lob.page r.lob.version r.lob.length) (sym a.trx ∙ b.trx)
    ∙ (ap (λ x. made m.doc q.state q.trx x r.lob.space r.lob.page r.lob.version r.lob.length) (sym a.roll ∙ b.roll)
    ∙ (ap (λ x. made m.doc q.state q.trx q.roll x r.lob.page r.lob.version r.lob.length) (sym a.space ∙ b.space)
    ∙ (ap (λ x. made m.doc q.state q.trx q.roll q.lob.space x r.lob.version r.lob.length) (sym a.first ∙ b.first)
    ∙ (ap (λ x. made m.doc q.state q.trx q.roll q.lob.space q.lob.page x r.lob.length) (sym a.version ∙ b.version)
    ∙ ap (λ x. made m.doc q.state q.trx q.roll q.lob.space q.lob.page q.lob.version x) (sym a.length ∙ b.length)))))))

present : (s : RowState) → IsPresent s → state_code s ≡ 0 → ⊥
present absent is zero = is
present live is zero = absurd (omega (arith, zero))
present deleted is zero = absurd (omega (arith, zero))

-- ---- the slots of a page

one_slots : (pages : Pages) (page at : ℕ) (ss ts : List (Option Keyed)) → length ss ≡ length ts → AreSlots pages page at ss → AreSlots pages page at ts → ss ≡ ts
one_slots pages page at [] [] many a b = refl
one_slots pages page at [] (t ∷ ts) many a b = absurd (omega (arith, many))
one_slots pages page at (s ∷ ss) [] many a b = absurd (omega (arith, many))
one_slots pages page at (None ∷ ss) (None ∷ ts) many a b = ap (λ (xs : List (Option Keyed)). None ∷ xs) (one_slots pages page (at + 40) ss ts (omega (arith, many)) a.1 b.1)
one_slots pages page at (None ∷ ss) (Some m ∷ ts) many a b = absurd (present m.row.state b.0.present (sym b.0.state ∙ a.0))
one_slots pages page at (Some k ∷ ss) (None ∷ ts) many a b = absurd (present k.row.state a.0.present (sym a.0.state ∙ b.0))
one_slots pages page at (Some k ∷ ss) (Some m ∷ ts) many a b =
    ap₂ (λ (x : Keyed) (xs : List (Option Keyed)). Some x ∷ xs) (one_row pages page at k m a.0 b.0) (one_slots pages page (at + 40) ss ts (omega (arith, many)) a.1 b.1)

-- ---- the pages

one_walk : (pages : Pages) (b c : Address) (ps qs : List RowPage) → length (row_nodes ps) ≡ length (row_nodes qs) → first_or null_address (row_nodes ps) ≡ first_or null_address (row_nodes qs)
    → IsWalk pages b (row_nodes ps) null_address → IsWalk pages c (row_nodes qs) null_address → AreRowPages pages ps → AreRowPages pages qs → ps ≡ qs
one_walk pages b c [] [] many first one two are are' = refl
one_walk pages b c [] (q ∷ qs) many first one two are are' = absurd (omega (arith, many))
one_walk pages b c (p ∷ ps) [] many first one two are are' = absurd (omega (arith, many))
one_walk pages b c (p ∷ ps) (q ∷ qs) many first one two are are' =
    let n : p.page ≡ q.page = ap (λ (a : Address). a.page) first in
    let ss : p.slots ≡ q.slots = one_slots pages q.page 52 p.slots q.slots (are.0.many ∙ sym are'.0.many) (subst (λ m. AreSlots pages m 52 p.slots) n are.0.slots) are'.0.slots in
    let same : p ≡ q = ap₂ (λ (m : ℕ) (xs : List (Option Keyed)). let x : RowPage = record { page = m; slots = xs } in x) n ss in
    let rest = one_walk pages (node_of p.page) (node_of q.page) ps qs (omega (arith, many)) (sym one.2 ∙ ap (λ (a : Address). address_at pages a.page (a.at + 6)) first ∙ two.2) one.3 two.3 are.1 are'.1 in
    ap₂ (λ (x : RowPage) (xs : List RowPage). x ∷ xs) same rest

pub one_rows : (pages : Pages) (base : Address) (ps qs : List RowPage) → IsRows pages base ps → IsRows pages base qs → ps ≡ qs
one_rows pages base ps qs one two =
    one_walk pages null_address null_address ps qs (sym one.list.count ∙ two.list.count) (sym one.list.first ∙ two.list.first) one.list.walk two.list.walk one.each two.each
