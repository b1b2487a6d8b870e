-- A planned change as the definitions have it: its answer, and the documents behind it.
use Rattle.std.proofs.Common.{◌≡◌, ℕ, ◌≤◌, ◌<◌, Bool, true, false, true≢false, List, length, Option, Some, None, refl, sym, ap, subst, ◌∙◌, arith, if◌then◌else◌}
use Rattle.tree_model.specs.Tree.{Tree, depth}
use Rattle.tree_model.specs.Same.{same_tree}
use Rattle.tree_model.specs.Edit.{Edit, edited}
use Rattle.binary_model.specs.Stands.{Stands}
use Rattle.binary_model.specs.Canonical.{canonical, canonical_length}
use Rattle.binary_model.specs.Change as bytes
use Rattle.binary_model.specs.Change.{Run, Progress, progress, finished, runs, differing, put_all, stored}
use Rattle.binary_model.proofs.canonical.LengthLemmas.{measured_length}
use Rattle.binary_model.proofs.in_place.ChangeLemmas.{same_edits}
use Rattle.json_patch.specs.View.{runs_of}
use Rattle.json_patch.specs.Answer.{IsPlanFor, IsPlanRefused}
use Rattle.json_patch.specs.declared.parts.Parts.{Parts}
use Rattle.json_patch.specs.declared.planning.Planned.TheVariants as planned
use Rattle.json_patch.specs.declared.error.PlanError.TheVariants.{Deep, Large}
use Rattle.json_patch.proofs.SingleLemmas.{few_places}
use Rattle.journal_model.specs.Documents.{Docs, look, with_doc, Change, Kept, keep}
use Rattle.journal_model.specs.Journal.{Reply, same, deep, large, full, part}
use Rattle.journal_model.specs.Replies.{reply_to, changed_reply, is_too_deep, is_too_large}
use Rattle.lob_store.specs.Documents.{tree_in, kept_of}
use Rattle.lob_store.proofs.DocumentLemmas.{stored_tree}

-- ---- what a change stores

full_of : bytes.Change → List ℕ
full_of (bytes.Full new) = new
full_of c = Rattle.std.proofs.Common.[]

runs_in : bytes.Change → List Run
runs_in (bytes.Parts rs) = rs
runs_in c = Rattle.std.proofs.Common.[]

is_full : bytes.Change → Bool
is_full (bytes.Full new) = true
is_full c = false

is_parts : bytes.Change → Bool
is_parts (bytes.Parts rs) = true
is_parts c = false

by_full : (old : List ℕ) (t : Tree) (new : List ℕ) (b : Bool) (o : Option (List ℕ)) → (if b then bytes.Same else elim o [ None ↦ bytes.Full (canonical t) | Some x ↦ bytes.Parts (runs old x) ]) ≡ bytes.Full new → new ≡ canonical t
unfolding full_of is_full
by_full old t new true o e = absurd (true≢false (sym (ap is_full e)))
by_full old t new false None e = sym (ap full_of e)
by_full old t new false (Some x) e = absurd (true≢false (sym (ap is_full e)))

by_parts : (old : List ℕ) (t : Tree) (rs : List Run) (b : Bool) (o : Option (List ℕ)) → (if b then bytes.Same else elim o [ None ↦ bytes.Full (canonical t) | Some x ↦ bytes.Parts (runs old x) ]) ≡ bytes.Parts rs → differing rs ≤ length old
unfolding runs_in is_parts
by_parts old t rs true o e = absurd (true≢false (sym (ap is_parts e)))
by_parts old t rs false None e = absurd (true≢false (sym (ap is_parts e)))
by_parts old t rs false (Some x) e = subst (λ qs. differing qs ≤ length old) (ap runs_in e) (few_places old x)

module _ (old : List ℕ) (t : Tree) (e : Edit) where
  start : Progress
  start = record { «tree» = t; edited = Some old }

  full_new : (new : List ℕ) → bytes.change old t e ≡ bytes.Full new → new ≡ canonical (edited e t)
  unfolding start
  full_new new h =
      by_full old (progress e start).«tree» new (same_tree t (progress e start).«tree») (progress e start).edited h ∙ ap canonical (same_edits e start)

  full_length : (new : List ℕ) → bytes.change old t e ≡ bytes.Full new → length new ≡ canonical_length (edited e t)
  full_length new h = ap length (full_new new h) ∙ measured_length (edited e t)

  few_parts : (rs : List Run) → bytes.change old t e ≡ bytes.Parts rs → differing rs ≤ length old
  unfolding start
  few_parts rs h = by_parts old (progress e start).«tree» rs (same_tree t (progress e start).«tree») (progress e start).edited h

-- ---- the answer

shallow_so : (t : Tree) → depth t ≤ 100 → is_too_deep t ≡ false
shallow_so t h = grind (arith, h)

deep_so : (t : Tree) → 100 < depth t → is_too_deep t ≡ true
deep_so t h = grind (arith, h)

small_so : (new : List ℕ) → length new ≤ 16777216 → is_too_large new ≡ false
small_so new h = grind (arith, h)

large_so : (new : List ℕ) → 16777216 < length new → is_too_large new ≡ true
large_so new h = grind (arith, h)

-- where the plan changes nothing, the change is answered as `same`
pub same_reply : (c : bytes.Change) (t : Tree) (nested size : ℕ) → IsPlanFor c nested size planned.Same → changed_reply t c ≡ same
same_reply bytes.Same t nested size h = refl
same_reply (bytes.Parts rs) t nested size h = absurd h
same_reply (bytes.Full new) t nested size h = absurd h

-- patches have the change's answer, and leave the bytes that it stores
abbrev pub PartsOf : bytes.Change → List ℕ → Tree → Parts → Type 0
PartsOf c old t parts = (changed_reply t c ≡ part (differing (runs_of parts))) × (stored old c ≡ put_all (runs_of parts) old)

-- where the plan is patches, they have the change's answer and leave what it stores
pub parts_reply : (c : bytes.Change) (old : List ℕ) (t : Tree) (size : ℕ) (parts : Parts) → IsPlanFor c (depth t) size (planned.Parts parts) → PartsOf c old t parts
parts_reply bytes.Same old t size parts h = absurd h
parts_reply (bytes.Parts rs) old t size parts h = (rw (shallow_so t h.0) (ap (λ qs. part (differing qs)) (sym h.1)), ap (λ qs. put_all qs old) (sym h.1))
parts_reply (bytes.Full new) old t size parts h = absurd h

-- planned patches differ at no more places than the old document has bytes
pub few_planned : (old : List ℕ) (t : Tree) (e : Edit) (c : bytes.Change) (nested size : ℕ) (parts : Parts) → bytes.change old t e ≡ c → IsPlanFor c nested size (planned.Parts parts) → differing (runs_of parts) ≤ length old
few_planned old t e bytes.Same nested size parts is h = absurd h
few_planned old t e (bytes.Parts rs) nested size parts is h = subst (λ qs. differing qs ≤ length old) (sym h.1) (few_parts old t e rs is)
few_planned old t e (bytes.Full new) nested size parts is h = absurd h

-- where the plan is an encoding within the limit, the change is answered as `full` and stores it
pub full_reply : (c : bytes.Change) (old : List ℕ) (t : Tree) (size : ℕ) (out : _) → IsPlanFor c (depth t) size (planned.Full out) → length out.items ≤ 16777216 → (changed_reply t c ≡ full) × (stored old c ≡ out.items)
full_reply bytes.Same old t size out h small = absurd h
full_reply (bytes.Parts rs) old t size out h small = absurd h
full_reply (bytes.Full new) old t size out h small =
    let fits : is_too_large new ≡ false = small_so new (subst (λ xs. length xs ≤ 16777216) h.2 small) in
    (rw (shallow_so t h.0, fits) refl, sym h.2)

-- where the plan is refused as too deep, the change is answered as `deep`
pub deep_reply : (c : bytes.Change) (t : Tree) (size : ℕ) → IsPlanRefused c (depth t) size Deep → changed_reply t c ≡ deep
deep_reply bytes.Same t size h = absurd h.0
deep_reply (bytes.Parts rs) t size h = rw (deep_so t h.1) refl
deep_reply (bytes.Full new) t size h = rw (deep_so t h.1) refl

-- where the plan is refused as too large, the change is answered as `large`
pub large_reply : (old : List ℕ) (t : Tree) (e : Edit) (c : bytes.Change) → bytes.change old t e ≡ c → IsPlanRefused c (depth (edited e t)) (canonical_length (edited e t)) Large → changed_reply (edited e t) c ≡ large
large_reply old t e bytes.Same is h = absurd h.0
large_reply old t e (bytes.Parts rs) is h = absurd h.0
large_reply old t e (bytes.Full new) is h =
    let over : 16777216 < length new = subst (λ n. 16777216 < n) (sym (full_length old t e new is)) h.2 in
    rw (shallow_so (edited e t) h.1, large_so new over) refl

-- ---- of a document that is kept

module _ (docs : Docs Kept) (d : ℕ) (old : List ℕ) (e : Edit) (found : look docs d ≡ Some (kept_of old)) where
  abbrev pub new_tree : Tree
  new_tree = edited e (tree_in old)

  abbrev pub its_change : bytes.Change
  its_change = bytes.change old (tree_in old) e

  pub table : (r : Reply) → changed_reply new_tree its_change ≡ r → r ≡ reply_to (Change d e) docs
  table r h = sym h ∙ sym (ap (Rattle.journal_model.specs.Replies.edit_reply e) found)

  pub left : (new : List ℕ) → Stands new new_tree → stored old its_change ≡ new → with_doc docs d (kept_of new) ≡ keep (Change d e) docs
  left new stands is =
      ap (λ t. with_doc docs d (t, new)) (stored_tree new new_tree stands)
      ∙ ap (λ xs. with_doc docs d (new_tree, xs)) (sym is)
      ∙ sym (ap (Rattle.journal_model.specs.Documents.with_edit Rattle.journal_model.specs.Documents.fresh Rattle.journal_model.specs.Documents.changed docs d e) found)
