-- The LOBs of documents where one LOB changes.
use Rattle.std.proofs.Common.{◌≡◌, ◌≢◌, ℕ, List, [], ◌∷◌, ◌++◌, map, Option, Some, option_to_list, option_map, refl, sym, ap, ap₂, subst, ◌∙◌}
use Rattle.journal_model.specs.Held.{HeldLob, at_first}
use Rattle.store_data.specs.Store.{RowState, absent, live, deleted, Row, Lob, Body, inserted, rebuilt, versioned, patched, removed, Store}
use Rattle.store_model.specs.Lobs.{lob_of}
use Rattle.store_model.specs.History.{Change, changes, row_before}
use Rattle.store_model.specs.Steps.{on_lob, on_lobs}
use Rattle.store_model.specs.Behind.{AllBefore, AllRows, IsElsewhere}
use Rattle.store_model.specs.Owned.{owned_if, owned_by, IsNotAmong}
use Rattle.store_model.specs.Well.{IsKind, IsChain, IsWell}
use Rattle.store_model.proofs.LobLemmas.{lob-on_this, lob-on_other}
use Rattle.store_model.proofs.GivesLemmas.{others_elsewhere}
use Rattle.kept_model.specs.Held.{held_lob, held_lobs, change_lobs, lob_pages, lob_list}
use Rattle.kept_model.specs.Pages.{KeepsLobs}

-- ---- pages that are others

pub both_not : (p : ℕ) (xs ys : List ℕ) → IsNotAmong p xs → IsNotAmong p ys → IsNotAmong p (xs ++ ys)
both_not p [] ys a b = b
both_not p (x ∷ xs) ys a b = (a.0, both_not p xs ys a.1 b)

pub one_not : (p : ℕ) (s : RowState) (page : ℕ) → (s ≡ live → page ≢ p) → IsNotAmong p (owned_if s page)
one_not p absent page h = tt
one_not p live page h = (h refl, tt)
one_not p deleted page h = tt

-- what a record owns is the LOB of a live row
kind_not : (p : ℕ) (b : Body) (row before : Row) → IsKind b row before → IsElsewhere p before → IsNotAmong p (owned_by b before)
kind_not p (inserted page) row before kind off = tt
kind_not p (rebuilt page) row before kind off = (off kind.2, tt)
kind_not p (versioned pieces touched) row before kind off = tt
kind_not p (patched old) row before kind off = tt
kind_not p removed row before kind off = (off kind.1, tt)

pub changes_not : (p : ℕ) (row : Row) (cs : List Change) → IsChain row cs → AllBefore (IsElsewhere p) cs → IsNotAmong p (change_lobs cs)
changes_not p row [] chain off = tt
changes_not p row (c ∷ cs) chain off =
    both_not p (owned_by c.undo.body c.undo.before) (change_lobs cs) (kind_not p c.undo.body row c.undo.before chain.0.kind off.0) (changes_not p c.undo.before cs chain.1 off.1)

pub doc_not : (p : ℕ) (store : Store) (d : ℕ) → IsWell store → AllRows (IsElsewhere p) store d → IsNotAmong p (lob_pages store d)
doc_not p store d well off = both_not p (owned_if (row_before store d).state (row_before store d).lob.page) (change_lobs (changes store d))
    (one_not p (row_before store d).state (row_before store d).lob.page off.0) (changes_not p (row_before store d) (changes store d) (well.chains d) off.1)

-- a live row's LOB is none that the records of its document own
pub row_not : (row : Row) (cs : List Change) → IsChain row cs → row.state ≡ live → IsNotAmong row.lob.page (change_lobs cs)
row_not row [] chain is_live = tt
row_not row (c ∷ cs) chain is_live = by_kind c.undo.body chain.0.kind chain.0.fresh (row_not c.undo.before cs chain.1)
  where
    by_kind : (b : Body) → IsKind b row c.undo.before → Rattle.store_model.specs.Moves.OlderElsewhere b (c ∷ cs) → (c.undo.before.state ≡ live → IsNotAmong c.undo.before.lob.page (change_lobs cs)) → IsNotAmong row.lob.page (owned_by b c.undo.before ++ change_lobs cs)
    by_kind (inserted page) kind fresh rest = subst (λ (q : ℕ). IsNotAmong q (change_lobs cs)) (sym kind.1) (changes_not page c.undo.before cs chain.1 fresh.1)
    by_kind (rebuilt page) kind fresh rest = subst (λ (q : ℕ). IsNotAmong q (c.undo.before.lob.page ∷ change_lobs cs)) (sym kind.1) (fresh.0 kind.2, changes_not page c.undo.before cs chain.1 fresh.1)
    by_kind (versioned pieces touched) kind fresh rest = subst (λ (q : ℕ). IsNotAmong q (change_lobs cs)) (sym (ap (λ (r : Rattle.store_data.specs.Store.Reference). r.page) kind.2)) (rest kind.1)
    by_kind (patched old) kind fresh rest = subst (λ (q : ℕ). IsNotAmong q (change_lobs cs)) (sym (ap (λ (r : Rattle.store_data.specs.Store.Reference). r.page) kind.2)) (rest kind.1)
    by_kind removed kind fresh rest = absurd (cc (sym is_live ∙ kind.0))

-- ---- LOBs that stay

pub held_same : (p : ℕ) (old new : List Lob) (ps : List ℕ) → ((q : ℕ) → q ≢ p → lob_of new q ≡ lob_of old q) → IsNotAmong p ps → held_lobs new ps ≡ held_lobs old ps
held_same p old new [] same off = refl
held_same p old new (q ∷ qs) same off = ap₂ (λ (o : Option Lob) (ls : List HeldLob). map held_lob (option_to_list o) ++ ls) (same q off.0) (held_same p old new qs same off.1)

-- of another document, where the LOB of a live row changes
pub others_keep : (store : Store) (d p : ℕ) (f : List Lob → List Lob) → IsWell store → (row_before store d).state ≡ live → (row_before store d).lob.page ≡ p → ((q : ℕ) → q ≢ p → lob_of (f store.lobs) q ≡ lob_of store.lobs q)
    → (q : ℕ) → q ≢ d → KeepsLobs store (on_lobs f store) q
others_keep store d p f well is_live is same q other = record {
  changes = refl;
  lobs = held_same p store.lobs (f store.lobs) (lob_pages store q) same (doc_not p store q well (others_elsewhere store d q p well (λ g. other (sym g)) is_live is));
}

-- ---- the LOB of a live row is the first of its document's

pub live_pages : (store : Store) (d : ℕ) → (row_before store d).state ≡ live → lob_pages store d ≡ (row_before store d).lob.page ∷ change_lobs (changes store d)
live_pages store d is_live = ap (λ (s : RowState). owned_if s (row_before store d).lob.page ++ change_lobs (changes store d)) is_live

pub live_list : (store : Store) (d : ℕ) (m : Lob) → (row_before store d).state ≡ live → lob_of store.lobs (row_before store d).lob.page ≡ Some m
    → lob_list store d ≡ held_lob m ∷ held_lobs store.lobs (change_lobs (changes store d))
live_list store d m is_live there = ap (held_lobs store.lobs) (live_pages store d is_live)
    ∙ ap (λ (o : Option Lob). map held_lob (option_to_list o) ++ held_lobs store.lobs (change_lobs (changes store d))) there

pub first_changes : (store : Store) (d p : ℕ) (f : Lob → Lob) (g : HeldLob → HeldLob) (m : Lob) → IsWell store → (row_before store d).state ≡ live → (row_before store d).lob.page ≡ p
    → lob_of store.lobs p ≡ Some m → ((l : Lob) → (f l).page ≡ l.page) → held_lob (f m) ≡ g (held_lob m)
    → lob_list (on_lobs (on_lob p f) store) d ≡ at_first g (lob_list store d)
first_changes store d p f g m well is_live is there same now =
    let at : lob_of store.lobs (row_before store d).lob.page ≡ Some m = ap (lob_of store.lobs) is ∙ there in
    let off : IsNotAmong p (change_lobs (changes store d)) = subst (λ (q : ℕ). IsNotAmong q (change_lobs (changes store d))) is (row_not (row_before store d) (changes store d) (well.chains d) is_live) in
    live_list (on_lobs (on_lob p f) store) d (f m) is_live (ap (lob_of (on_lob p f store.lobs)) is ∙ lob-on_this p f store.lobs same ∙ ap (option_map f) there)
    ∙ ap₂ (λ (h : HeldLob) (ls : List HeldLob). h ∷ ls) now (held_same p store.lobs (on_lob p f store.lobs) (change_lobs (changes store d)) (λ q other. lob-on_other q p f store.lobs same other) off)
    ∙ ap (at_first g) (sym (live_list store d m is_live at))
