use Rattle.std.proofs.Common.{◌≡◌, [], ◌++◌, length, sym, ap, subst, ◌∙◌, rules}
use Rattle.tree_model.specs.Edit as model
use Rattle.binary_model.specs.Stands.{IsBytes}
use Rattle.binary_model.specs.Change.{runs}
use Rattle.json_patch.specs.Made.{StandFor}
use Rattle.json_patch.specs.Removal.{Reached}
use Rattle.json_patch.proofs.PlanLemmas.{stands_for, whole_again, same_plan, parts_plan}
use Rattle.json_patch.proofs.RemovalLemmas.{leads_back, leads_on}
use Rattle.json_patch.proofs.removal.plan_removals.Goals as goal

pub returns-then-branch : goal.returns-then-branch
returns-then-branch c =
    let bytes = c.args.bytes.now in
    let paths = c.args.paths.now in
    let new = c.take_paths.new.bytes in
    let octets : IsBytes bytes = search rules in
    let copy : c.extend_from_slice.new.self.items ≡ bytes = c.in_ok-extend_from_slice.ensures.items ∙ ap (λ b. b ++ bytes) c.new-edited.ensures.items in
    let start = c.deref_mut.ensures.value ∙ copy in
    parts_plan bytes (model.Remove paths) c.in_ok-runs_in_spans.field-0 (λ t s.
    let reached = subst (λ b. Reached b t paths [] new c.in_ok-take_paths.field-0) start (c.in_ok-take_paths.ensures.took t (subst (λ b. StandFor b t) (sym start) (stands_for bytes t octets c.requires.small s))) in
    let took = subst (Reached bytes t paths [] new) c.if-branch.true reached in
    let end = c.deref.ensures.value ∙ whole_again c.extend_from_slice.new.self.items new c.extend_from_slice.new.self.len c.extend_from_slice.new.self.ok.0 (took.long ∙ sym (ap length copy)) in
    leads_on bytes new t paths c.in_ok-runs_in_spans.field-0 s took (c.in_ok-runs_in_spans.ensures ∙ ap (runs bytes) end))

pub returns : goal.returns
returns c =
    let bytes = c.args.bytes.now in
    let paths = c.args.paths.now in
    let new = c.take_paths.new.bytes in
    let octets : IsBytes bytes = search rules in
    let start = c.deref_mut.ensures.value ∙ c.in_ok-extend_from_slice.ensures.items ∙ ap (λ b. b ++ bytes) c.new-edited.ensures.items in
    same_plan bytes (model.Remove paths) (λ t s.
    let reached = subst (λ b. Reached b t paths [] new c.in_ok-take_paths.field-0) start (c.in_ok-take_paths.ensures.took t (subst (λ b. StandFor b t) (sym start) (stands_for bytes t octets c.requires.small s))) in
    leads_back bytes new t paths (subst (Reached bytes t paths [] new) c.if-branch.false reached))
