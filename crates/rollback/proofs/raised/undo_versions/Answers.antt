use Rattle.std.proofs.Common.{◌≡◌, ◌+◌, ℕ, [], ◌∷◌, Option, sym, ap, subst, ◌∙◌, lit≤, arith}
use Rattle.page_model.proofs.StepLemmas.{may_less, may_within, uses_at_most, uses_more, uses_unnamed, uses_within, within_one}
use Rattle.undo_logs.proofs.UseLemmas.{skip}
use Rattle.file_lists.proofs.LinkLemmas.{handed_on}
use Rattle.lob_index.proofs.AnswerLemmas.{becomes_on}
use Rattle.lob_model.specs.Pieces.{AreFalling}
use Rattle.store_data.specs.Store.{Record}
use Rattle.store_model.specs.Lobs.{lob_of}
use Rattle.store_model.specs.Steps.{on_lob, at_version}
use Rattle.store_parts.specs.Shows.{touched_from}
use Rattle.store_steps.specs.Reached.{piece_in}
use Rattle.store_steps.proofs.LobLemmas.{lob_at}
use Rattle.store_steps.proofs.NextLemmas.{next_below}
use Rattle.rollback.specs.Events.{popping}
use Rattle.rollback.specs.Made.{Made, goes_on}
use Rattle.rollback.specs.Versions.{CanPop}
use Rattle.rollback.proofs.KindLemmas.{scene_at, at_scene, newest_scene, end_scene, ended_made, unmade_raised, popped_made, turned_popped, turned_ended}
use Rattle.rollback.proofs.UseLemmas.{both_in, may_named}
use Rattle.rollback.proofs.raised.undo_versions.Goals as goal

pub returns-in_err-head-in-Some-clause-never : goal.returns-in_err-head-in-Some-clause-never
returns-in_err-head-in-Some-clause-never g c = λ s is newest dir ending can.
    let n = c.args.newest.now in
    let first = n.rec.before.lob.page.0 in
    let v = n.rec.before.lob.version.0 in
    let log = c.args.log.0 in
    let pg : first ≡ s.undo.before.lob.page = ap (λ (u : Record). u.before.lob.page) newest.undo in
    let vr : v ≡ s.undo.before.lob.version = ap (λ (u : Record). u.before.lob.version) newest.undo in
    let m = can.lob in
    let found = ap (λ (q : ℕ). lob_of s.store.lobs q) pg ∙ can.found in
    let at = lob_at s.there s.pages s.store first m is.stands found in
    let low = next_below _ (piece_in c.args.last) c.in-Some.k
    (touched_from 0 c.args.touched.now.pieces c.args.touched.now.bits) can.below c.in-Some.ensures.value in
    handed_on c.reach.result _ _ (c.reach.ensures.never s.pages m is.told' at.here at.stands can.head low)
    c.in_err-head-in-Some.was c.from_residual.ensures

pub returns-in_err-head-in-Some-clause-uses : goal.returns-in_err-head-in-Some-clause-uses
returns-in_err-head-in-Some-clause-uses g c =
    let n = c.args.newest.now in
    let first = n.rec.before.lob.page.0 in
    let v = n.rec.before.lob.version.0 in
    let log = c.args.log.0 in
    let ns = first ∷ log ∷ 0 ∷ [] in
    uses_more (first ∷ []) ns 5 9 0 169 _ _ c.reach.ensures.uses (within_one first (log ∷ 0 ∷ [])) (lit≤ tt) (lit≤ tt)

pub pop_raised-requires-clause-may : goal.pop_raised-requires-clause-may
pop_raised-requires-clause-may g c =
    let n = c.args.newest.now in
    let first = n.rec.before.lob.page.0 in
    let v = n.rec.before.lob.version.0 in
    let log = c.args.log.0 in
    let ns = first ∷ log ∷ 0 ∷ [] in
    let reached = uses_more (first ∷ []) ns 5 5 0 0 _ _ c.reach.ensures.uses (within_one first (log ∷ 0 ∷ [])) (lit≤ tt) (lit≤ tt) in
    may_named c.in_ok-head-in-Some.head.page.0 ns (first ∷ 0 ∷ []) 9 169 5 0 3 169 c.args.p.now
    c.reach.new.p (skip first log 0) (lit≤ tt) (lit≤ tt) c.requires.may reached

pub returns-in_err-pop_raised-in-Some-clause-never : goal.returns-in_err-pop_raised-in-Some-clause-never
returns-in_err-pop_raised-in-Some-clause-never g c = λ s is newest dir ending can.
    let n = c.args.newest.now in
    let first = n.rec.before.lob.page.0 in
    let v = n.rec.before.lob.version.0 in
    let log = c.args.log.0 in
    let pg : first ≡ s.undo.before.lob.page = ap (λ (u : Record). u.before.lob.page) newest.undo in
    let vr : v ≡ s.undo.before.lob.version = ap (λ (u : Record). u.before.lob.version) newest.undo in
    let m = can.lob in
    let found = ap (λ (q : ℕ). lob_of s.store.lobs q) pg ∙ can.found in
    let at = lob_at s.there s.pages s.store first m is.stands found in
    let k = c.in-Some.k in
    let here = c.in_ok-head-in-Some.ensures.value s.pages m is.told' at.here at.stands can.head in
    let older = subst (λ (q : ℕ). CanPop k q m) (sym vr) (can.older k) in
    handed_on c.pop_raised.result _ _
    (c.pop_raised.ensures.never s.there s.pages s.store m k (c.reach.ensures.told ∙ is.told') is.stands found here older)
    c.in_err-pop_raised-in-Some.was c.from_residual-in_err-pop_raised-in-Some.ensures

pub returns-in_err-pop_raised-in-Some-clause-uses : goal.returns-in_err-pop_raised-in-Some-clause-uses
returns-in_err-pop_raised-in-Some-clause-uses g c =
    let n = c.args.newest.now in
    let first = n.rec.before.lob.page.0 in
    let v = n.rec.before.lob.version.0 in
    let log = c.args.log.0 in
    let ns = first ∷ log ∷ 0 ∷ [] in
    let reached = uses_more (first ∷ []) ns 5 5 0 0 _ _ c.reach.ensures.uses (within_one first (log ∷ 0 ∷ [])) (lit≤ tt) (lit≤ tt) in
    uses_within g.P.Pages.stays_on ns (first ∷ 0 ∷ []) 5 0 4 169 c.args.p.now c.reach.new.p
    c.pop_raised.new.p (skip first log 0) reached
    (uses_unnamed c.in_ok-head-in-Some.head.page.0 (first ∷ 0 ∷ []) 3 169 _ _ c.pop_raised.ensures.uses)

pub returns-in_ok-pop_raised-in-Some-clause-uses : goal.returns-in_ok-pop_raised-in-Some-clause-uses
returns-in_ok-pop_raised-in-Some-clause-uses g c =
    let n = c.args.newest.now in
    let first = n.rec.before.lob.page.0 in
    let v = n.rec.before.lob.version.0 in
    let log = c.args.log.0 in
    let ns = first ∷ log ∷ 0 ∷ [] in
    let reached = uses_more (first ∷ []) ns 5 5 0 0 _ _ c.reach.ensures.uses (within_one first (log ∷ 0 ∷ [])) (lit≤ tt) (lit≤ tt) in
    uses_within g.P.Pages.stays_on ns (first ∷ 0 ∷ []) 5 0 4 169 c.args.p.now c.reach.new.p
    c.pop_raised.new.p (skip first log 0) reached
    (uses_unnamed c.in_ok-head-in-Some.head.page.0 (first ∷ 0 ∷ []) 3 169 _ _ c.pop_raised.ensures.uses)

pub returns-in_ok-pop_raised-in-Some-clause-makes : goal.returns-in_ok-pop_raised-in-Some-clause-makes
returns-in_ok-pop_raised-in-Some-clause-makes g c = λ s is newest dir ending can.
    let n = c.args.newest.now in
    let first = n.rec.before.lob.page.0 in
    let v = n.rec.before.lob.version.0 in
    let log = c.args.log.0 in
    let pg : first ≡ s.undo.before.lob.page = ap (λ (u : Record). u.before.lob.page) newest.undo in
    let vr : v ≡ s.undo.before.lob.version = ap (λ (u : Record). u.before.lob.version) newest.undo in
    let m = can.lob in
    let found = ap (λ (q : ℕ). lob_of s.store.lobs q) pg ∙ can.found in
    let at = lob_at s.there s.pages s.store first m is.stands found in
    let k = c.in-Some.k in
    let here = c.in_ok-head-in-Some.ensures.value s.pages m is.told' at.here at.stands can.head in
    let older = subst (λ (q : ℕ). CanPop k q m) (sym vr) (can.older k) in
    becomes_on _ _ _ (λ new x. popped_made s first v k _ _ new pg vr c.in-Some.ensures.value dir x)
    (c.in_ok-pop_raised-in-Some.ensures.pops s.there s.pages s.store m k (c.reach.ensures.told ∙ is.told')
    is.stands found here older)

pub returns-in_ok-pop_raised-in-Some-clause-fit : goal.returns-in_ok-pop_raised-in-Some-clause-fit
returns-in_ok-pop_raised-in-Some-clause-fit g c = (
  c.in_ok-head-in-Some.ensures.place,
  (let low = c.in-Some.ensures.below in let few = c.requires.pieces in omega (arith, low, few)),
)

pub lower-requires-clause-may : goal.lower-requires-clause-may
lower-requires-clause-may g c =
    let n = c.args.newest.now in
    let first = n.rec.before.lob.page.0 in
    let v = n.rec.before.lob.version.0 in
    let log = c.args.log.0 in
    let ns = first ∷ log ∷ 0 ∷ [] in
    may_less ns (first ∷ []) 9 0 169 12 _ c.requires.may (within_one first (log ∷ 0 ∷ [])) (lit≤ tt) (lit≤ tt)

pub returns-in_err-lower-in-None-clause-uses : goal.returns-in_err-lower-in-None-clause-uses
returns-in_err-lower-in-None-clause-uses g c =
    let n = c.args.newest.now in
    let first = n.rec.before.lob.page.0 in
    let v = n.rec.before.lob.version.0 in
    let log = c.args.log.0 in
    let ns = first ∷ log ∷ 0 ∷ [] in
    uses_more (first ∷ []) ns 0 9 12 169 _ _ c.lower.ensures.uses (within_one first (log ∷ 0 ∷ [])) (lit≤ tt) (lit≤ tt)

pub end_record-requires-clause-may : goal.end_record-requires-clause-may
end_record-requires-clause-may g c =
    let n = c.args.newest.now in
    let first = n.rec.before.lob.page.0 in
    let v = n.rec.before.lob.version.0 in
    let log = c.args.log.0 in
    let ns = first ∷ log ∷ 0 ∷ [] in
    let lowered = uses_more (first ∷ []) ns 0 0 12 12 _ _ c.lower.ensures.uses (within_one first (log ∷ 0 ∷ [])) (lit≤ tt) (lit≤ tt) in
    may_within ns (log ∷ 0 ∷ []) 9 169 0 12 9 143 c.args.p.now c.lower.new.p (both_in first log) (lit≤ tt) (lit≤ tt)
    c.requires.may lowered

pub returns-in_err-more-in-None-clause-never : goal.returns-in_err-more-in-None-clause-never
returns-in_err-more-in-None-clause-never g c = λ s is newest dir ending can.
    let n = c.args.newest.now in
    let first = n.rec.before.lob.page.0 in
    let v = n.rec.before.lob.version.0 in
    let log = c.args.log.0 in
    let pg : first ≡ s.undo.before.lob.page = ap (λ (u : Record). u.before.lob.page) newest.undo in
    let vr : v ≡ s.undo.before.lob.version = ap (λ (u : Record). u.before.lob.version) newest.undo in
    let m = can.lob in
    let found = ap (λ (q : ℕ). lob_of s.store.lobs q) pg ∙ can.found in
    let at = lob_at s.there s.pages s.store first m is.stands found in
    let falling = subst (λ (q : ℕ). AreFalling (q + 1) m.pieces) (sym vr) (can.lowered (sym c.in-None.ensures.value)) in
    let b = c.in_ok-lower-in-None.ensures.lowers s.there s.pages s.store m is.told' is.stands found falling in
    let f = on_lob first (at_version v) in
    let sc = at_scene _ _ log s b.0 f is b.1 b.2 in
    handed_on c.end_record.result _ _ (c.end_record.ensures.never (scene_at s b.0 f) sc
    (newest_scene n s b.0 f newest) dir (end_scene s b.0 f ending))
    c.in_err-more-in-None.was c.from_residual-in_err-more-in-None.ensures

pub returns-in_err-more-in-None-clause-uses : goal.returns-in_err-more-in-None-clause-uses
returns-in_err-more-in-None-clause-uses g c =
    let n = c.args.newest.now in
    let first = n.rec.before.lob.page.0 in
    let v = n.rec.before.lob.version.0 in
    let log = c.args.log.0 in
    let ns = first ∷ log ∷ 0 ∷ [] in
    let lowered = uses_more (first ∷ []) ns 0 0 12 12 _ _ c.lower.ensures.uses (within_one first (log ∷ 0 ∷ [])) (lit≤ tt) (lit≤ tt) in
    uses_at_most ns 9 155 9 169 _ _ (lit≤ tt) (lit≤ tt)
    (uses_within g.P.Pages.stays_on ns (log ∷ 0 ∷ []) 0 12 9 143 c.args.p.now c.lower.new.p c.end_record.new.p
    (both_in first log) lowered c.end_record.ensures.uses)

pub returns-in_ok-more-in-None-clause-uses : goal.returns-in_ok-more-in-None-clause-uses
returns-in_ok-more-in-None-clause-uses g c =
    let n = c.args.newest.now in
    let first = n.rec.before.lob.page.0 in
    let v = n.rec.before.lob.version.0 in
    let log = c.args.log.0 in
    let ns = first ∷ log ∷ 0 ∷ [] in
    let lowered = uses_more (first ∷ []) ns 0 0 12 12 _ _ c.lower.ensures.uses (within_one first (log ∷ 0 ∷ [])) (lit≤ tt) (lit≤ tt) in
    uses_at_most ns 9 155 9 169 _ _ (lit≤ tt) (lit≤ tt)
    (uses_within g.P.Pages.stays_on ns (log ∷ 0 ∷ []) 0 12 9 143 c.args.p.now c.lower.new.p c.end_record.new.p
    (both_in first log) lowered c.end_record.ensures.uses)

pub returns-in_ok-more-in-None-clause-makes : goal.returns-in_ok-more-in-None-clause-makes
returns-in_ok-more-in-None-clause-makes g c = λ s is newest dir ending can.
    let n = c.args.newest.now in
    let first = n.rec.before.lob.page.0 in
    let v = n.rec.before.lob.version.0 in
    let log = c.args.log.0 in
    let pg : first ≡ s.undo.before.lob.page = ap (λ (u : Record). u.before.lob.page) newest.undo in
    let vr : v ≡ s.undo.before.lob.version = ap (λ (u : Record). u.before.lob.version) newest.undo in
    let m = can.lob in
    let found = ap (λ (q : ℕ). lob_of s.store.lobs q) pg ∙ can.found in
    let at = lob_at s.there s.pages s.store first m is.stands found in
    let falling = subst (λ (q : ℕ). AreFalling (q + 1) m.pieces) (sym vr) (can.lowered (sym c.in-None.ensures.value)) in
    let b = c.in_ok-lower-in-None.ensures.lowers s.there s.pages s.store m is.told' is.stands found falling in
    let f = on_lob first (at_version v) in
    let sc = at_scene _ _ log s b.0 f is b.1 b.2 in
    becomes_on _ _ _ (λ new e.
    subst (λ (o : Option ℕ). Made (popping s.undo.before.lob.page s.undo.before.lob.version o) s c.end_record.new.rows new)
    c.in-None.ensures.value
    (ended_made s b.0 f c.end_record.new.rows new (unmade_raised s first v can.pieces _ can.body pg vr) e))
    (c.in_ok-more-in-None.ensures.ends (scene_at s b.0 f) sc (newest_scene n s b.0 f newest) dir
    (end_scene s b.0 f ending))

pub returns-in_ok-pop_raised-in-Some-clause-left : goal.returns-in_ok-pop_raised-in-Some-clause-left
returns-in_ok-pop_raised-in-Some-clause-left g c = λ s is newest can.
    ap (λ (o : Option ℕ). goes_on (popping s.undo.before.lob.page s.undo.before.lob.version o) s)
    c.in-Some.ensures.value

pub returns-in_ok-more-in-None-clause-left : goal.returns-in_ok-more-in-None-clause-left
returns-in_ok-more-in-None-clause-left g c = λ s is newest can.
    let n = c.args.newest.now in
    let first = n.rec.before.lob.page.0 in
    let v = n.rec.before.lob.version.0 in
    let log = c.args.log.0 in
    let pg : first ≡ s.undo.before.lob.page = ap (λ (u : Record). u.before.lob.page) newest.undo in
    let vr : v ≡ s.undo.before.lob.version = ap (λ (u : Record). u.before.lob.version) newest.undo in
    let m = can.lob in
    let found = ap (λ (q : ℕ). lob_of s.store.lobs q) pg ∙ can.found in
    let at = lob_at s.there s.pages s.store first m is.stands found in
    let falling = subst (λ (q : ℕ). AreFalling (q + 1) m.pieces) (sym vr) (can.lowered (sym c.in-None.ensures.value)) in
    let b = c.in_ok-lower-in-None.ensures.lowers s.there s.pages s.store m is.told' is.stands found falling in
    let f = on_lob first (at_version v) in
    let sc = at_scene _ _ log s b.0 f is b.1 b.2 in
    c.in_ok-more-in-None.ensures.left (scene_at s b.0 f) sc
    ∙ ap (λ (o : Option ℕ). goes_on (popping s.undo.before.lob.page s.undo.before.lob.version o) s)
    c.in-None.ensures.value

pub returns-in_ok-pop_raised-in-Some-clause-turns : goal.returns-in_ok-pop_raised-in-Some-clause-turns
returns-in_ok-pop_raised-in-Some-clause-turns g c = λ s is newest can.
    let n = c.args.newest.now in
    let first = n.rec.before.lob.page.0 in
    let v = n.rec.before.lob.version.0 in
    let log = c.args.log.0 in
    let pg : first ≡ s.undo.before.lob.page = ap (λ (u : Record). u.before.lob.page) newest.undo in
    let vr : v ≡ s.undo.before.lob.version = ap (λ (u : Record). u.before.lob.version) newest.undo in
    let m = can.lob in
    let found = ap (λ (q : ℕ). lob_of s.store.lobs q) pg ∙ can.found in
    let at = lob_at s.there s.pages s.store first m is.stands found in
    let k = c.in-Some.k in
    let here = c.in_ok-head-in-Some.ensures.value s.pages m is.told' at.here at.stands can.head in
    let older = subst (λ (q : ℕ). CanPop k q m) (sym vr) (can.older k) in
    turned_popped s first v k _ _ _ pg vr c.in-Some.ensures.value
    (c.in_ok-pop_raised-in-Some.ensures.turns s.there s.pages s.store m k (c.reach.ensures.told ∙ is.told')
    is.stands found here older)

pub returns-in_ok-more-in-None-clause-turns : goal.returns-in_ok-more-in-None-clause-turns
returns-in_ok-more-in-None-clause-turns g c = λ s is newest can.
    turned_ended s c.args.newest.now newest _ _ _ c.in-None.ensures.value c.in_ok-more-in-None.ensures.turns

pub returns-in_ok-pop_raised-in-Some-clause-head : goal.returns-in_ok-pop_raised-in-Some-clause-head
returns-in_ok-pop_raised-in-Some-clause-head g c = λ s is newest can.
    let n = c.args.newest.now in
    let first = n.rec.before.lob.page.0 in
    let v = n.rec.before.lob.version.0 in
    let log = c.args.log.0 in
    let pg : first ≡ s.undo.before.lob.page = ap (λ (u : Record). u.before.lob.page) newest.undo in
    let vr : v ≡ s.undo.before.lob.version = ap (λ (u : Record). u.before.lob.version) newest.undo in
    let m = can.lob in
    let found = ap (λ (q : ℕ). lob_of s.store.lobs q) pg ∙ can.found in
    let at = lob_at s.there s.pages s.store first m is.stands found in
    c.in_ok-head-in-Some.ensures.value s.pages m is.told' at.here at.stands can.head
