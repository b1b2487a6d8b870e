use Rattle.std.proofs.Common.{[], ◌∷◌, ◌∙◌, refl, ap, subst, option_map, rules}
use Rattle.tree_model.specs.Edit as model
use Rattle.binary_model.specs.Stands.{IsBytes}
use Rattle.binary_model.specs.Change.{runs}
use Rattle.json_patch.specs.Made.{Takes}
use Rattle.json_patch.specs.Writes.{put_writes}
use Rattle.json_patch.proofs.PlanLemmas.{stands_for, same_plan, parts_plan}
use Rattle.json_patch.proofs.RemovalLemmas.{kept_step, taken_step, leads_back, leads_on}
use Rattle.json_patch.proofs.removal.plan_removal.Goals as goal

pub returns-in_ok-runs_of_writes-in-Some : goal.returns-in_ok-runs_of_writes-in-Some
returns-in_ok-runs_of_writes-in-Some c =
    let bytes = c.args.bytes.now in
    let path = c.args.path.now in
    let ws = c.in-Some.writes.items in
    let new = put_writes ws bytes in
    let octets : IsBytes bytes = search rules in
    let parts_are = c.in_ok-runs_of_writes-in-Some.ensures ∙ ap (λ ws. runs bytes (put_writes ws bytes)) c.deref.ensures.value in
    parts_plan bytes (model.Remove (path ∷ [])) c.in_ok-runs_of_writes-in-Some.field-0 (λ t s.
    let h = stands_for bytes t octets c.requires.small s in
    let out = subst (λ f. Takes bytes t path (option_map (λ ws. ws.items) f)) c.in-Some.is (c.in_ok-writes.ensures t h) in
    leads_on bytes new t (path ∷ []) c.in_ok-runs_of_writes-in-Some.field-0 s (taken_step bytes new t path ws h out refl) parts_are)

pub returns-in-None : goal.returns-in-None
returns-in-None c =
    let bytes = c.args.bytes.now in
    let path = c.args.path.now in
    let octets : IsBytes bytes = search rules in
    same_plan bytes (model.Remove (path ∷ [])) (λ t s.
    let h = stands_for bytes t octets c.requires.small s in
    let none = subst (λ f. Takes bytes t path (option_map (λ ws. ws.items) f)) c.in-None.is (c.in_ok-writes.ensures t h) in
    leads_back bytes bytes t (path ∷ []) (kept_step bytes t path h none))
