use Rattle.std.proofs.Common.{◌≡◌, ◌+◌, ◌∷◌, [], length, map, None, IfSome, Ok, sym, subst, ◌∙◌, arith}
use Rattle.std.proofs.lemmas.Bool.{ltb-false}
use Rattle.tree_model.specs.Tree.{Tree, depth}
use Rattle.binary_model.specs.Stands.{Stands}
use Rattle.binary_model.specs.Change.{progress}
use Rattle.json_tree.specs.View.{tree_of}
use Rattle.json_edit.specs.Edits.{assigned}
use Rattle.json_patch.specs.declared.planning.Planned.TheVariants as planned
use Rattle.json_patch.specs.Answer.{Plans}
use Rattle.json_patch.specs.Made.{edit_by, in_place}
use Rattle.json_patch.specs.Spliced.{IsReplaced}
use Rattle.json_patch.proofs.SplicedLemmas.{replaced_plan, only_pair}
use Rattle.json_patch.proofs.planning.copy_pairs.Goals as goal

pub returns-in-Some : goal.returns-in-Some
returns-in-Some c =
    let bytes = c.args.bytes.now in
    let pair = c.pair-item.result in
    let path = pair.path in
    let v = tree_of pair.value in
    let adding = c.args.adding in
    let one : map assigned c.args.pairs.now ≡ assigned pair ∷ [] = only_pair c.args.pairs.now pair c.in-len1.len_at_least c.in-len1.len_below c.pair-item.is in
    let made : (t : Tree) → Stands bytes t → IsReplaced t path v c.in-Some.encoding.items = subst (λ o. IfSome o (λ out. (t : Tree) → Stands bytes t → IsReplaced t path v out.items)) c.in-Some.is c.in_ok-encoding.ensures in
    let low = ltb-false 100 (length path + depth v) (sym c.nests_over.ensures ∙ c.if-nests_over.false) in
    subst (λ ps. Plans bytes (edit_by adding ps) (Ok (planned.Full c.in-Some.encoding))) (sym one)
    (replaced_plan bytes adding path v c.in-Some.encoding made (omega (arith, low)) (λ t s. subst (λ ps. (progress (edit_by adding ps) (in_place bytes t)).edited ≡ None) one (c.requires.anew t s)))
