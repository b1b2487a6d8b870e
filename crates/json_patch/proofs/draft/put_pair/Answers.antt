use Rattle.std.proofs.Common.{◌∙◌, ◌∷◌, [], sym, ap, subst, map}
use Rattle.std.proofs.lemmas.List.{map-append}
use Rattle.json_tree.specs.View.{tree_of}
use Rattle.json_patch.specs.declared.pair.Made.TheVariants.{Written}
use Rattle.json_patch.specs.Writes.{put_writes}
use Rattle.json_patch.specs.Made.{StandFor, Makes}
use Rattle.json_patch.proofs.SingleLemmas.{not_over}
use Rattle.json_patch.proofs.DraftLemmas.{put_written}
use Rattle.json_patch.proofs.draft.put_pair.Goals as goal

pub returns-in_ok-touched-in-Written-clause-put : goal.returns-in_ok-touched-in-Written-clause-put
returns-in_ok-touched-in-Written-clause-put c =
    let path = c.args.pair.now.path in
    let v = tree_of c.args.pair.now.value in
    let place = c.in-Written.place in
    let ws = c.in-Written.writes.items in
    let touched = c.in_ok-touched-in-Written.ensures.put in
    let items = c.args.draft.bytes.items in
    λ t u d. let made = subst (λ b. Makes b u c.args.adding path v (Written place c.in-Written.writes)) c.deref.ensures.value
    (subst (Makes c.deref.result.now u c.args.adding path v) c.in-Written.is (c.in_ok-make_pair.ensures u (subst (λ b. StandFor b u) (sym c.deref.ensures.value) d.stands))) in
    put_written c.args.adding path v t u c.args.draft d c.in_ok-touched-in-Written.touched c.nests_over.result place.items ws made
    (touched.0 ∙ ap (λ ws. put_writes ws items) c.deref-in-Written.ensures.value)
    (ap (map (λ ks. ks.items)) touched.1 ∙ map-append (λ ks. ks.items) c.args.draft.touched.items (place ∷ []))
    touched.2 (not_over _ c.nests_over.result c.nests_over.ensures)
