use Rattle.std.proofs.Common.{◌≡◌, ◌<◌, sym, ap, subst, ◌∙◌, arith}
use Rattle.std.proofs.lemmas.Grind.{common_steps}
use Rattle.tree_model.specs.Tree.{depth}
use Rattle.tree_model.specs.Edit.{edited}
use Rattle.tree_model.specs.Same.{same_tree}
use Rattle.binary_model.specs.Canonical.{canonical, canonical_length}
use Rattle.binary_model.specs.Change.{Full}
use Rattle.binary_model.proofs.reading.StandLemmas.{one_tree}
use Rattle.json_tree.specs.View.{tree_of}
use Rattle.json_edit.specs.Edits.{edit_of}
use Rattle.json_patch.specs.Answer.{IsPlanFor, IsOther, IsAnswer, IsEncoded, StaysInPlace}
use Rattle.json_patch.specs.declared.planning.Planned.TheVariants as planned
use Rattle.json_patch.proofs.RestoredLemmas.{anew_same, anew_full}
use Rattle.json_patch.proofs.planning.encode_anew.Goals as goal

pub returns-then-same : goal.returns-then-same
returns-then-same c =
    let bytes = c.args.bytes.now in
    let edit = edit_of c.args.edit.now in
    record {
      answer = λ t s.
          let is = one_tree bytes (tree_of c.in-Ok.before) t c.in-Ok.ensures.stands s in
          let same = subst (λ v. same_tree v (edited edit v) ≡ c.same.result) is (ap (same_tree (tree_of c.in-Ok.before)) (sym c.in_ok-after.ensures) ∙ sym c.same.ensures) in
          subst (λ ch. IsPlanFor ch (depth (edited edit t)) (canonical_length (edited edit t)) planned.Same) (sym (anew_same bytes t edit (c.requires.anew t s) (same ∙ c.if-same.true))) tt;
      stands = λ t s. tt;
      encoded = λ t s. tt;
    }

pub returns-then-depth-gt-MAX_DEPTH : goal.returns-then-depth-gt-MAX_DEPTH
returns-then-depth-gt-MAX_DEPTH c =
    let bytes = c.args.bytes.now in
    let edit = edit_of c.args.edit.now in
    let high : 100 < depth (tree_of c.in_ok-after.after) = grind (arith, common_steps, c.depth.ensures, c.if-depth-gt-MAX_DEPTH.true) in
    record {
      answer = λ t s.
          let is = one_tree bytes (tree_of c.in-Ok.before) t c.in-Ok.ensures.stands s in
          let same = subst (λ v. same_tree v (edited edit v) ≡ c.same.result) is (ap (same_tree (tree_of c.in-Ok.before)) (sym c.in_ok-after.ensures) ∙ sym c.same.ensures) in
          (subst IsOther (sym (anew_full bytes t edit (c.requires.anew t s) (same ∙ c.if-same.false))) tt, subst (λ v. 100 < depth v) (c.in_ok-after.ensures ∙ ap (edited edit) is) high);
      stands = λ t s. tt;
      encoded = λ t s. tt;
    }

pub returns : goal.returns
returns c =
    let bytes = c.args.bytes.now in
    let edit = edit_of c.args.edit.now in
    record {
      answer = λ t s.
          let is = one_tree bytes (tree_of c.in-Ok.before) t c.in-Ok.ensures.stands s in
          let same = subst (λ v. same_tree v (edited edit v) ≡ c.same.result) is (ap (same_tree (tree_of c.in-Ok.before)) (sym c.in_ok-after.ensures) ∙ sym c.same.ensures) in
          subst (λ ch. IsAnswer ch (depth (edited edit t)) (canonical_length (edited edit t)) c.encoded.result) (sym (anew_full bytes t edit (c.requires.anew t s) (same ∙ c.if-same.false)))
          (subst (λ v. IsAnswer (Full (canonical v)) (depth v) (canonical_length v) c.encoded.result) (c.in_ok-after.ensures ∙ ap (edited edit) is) c.encoded.ensures.answer);
      stands = λ t s. subst (λ v. StaysInPlace bytes v c.encoded.result) (c.in_ok-after.ensures ∙ ap (edited edit) (one_tree bytes (tree_of c.in-Ok.before) t c.in-Ok.ensures.stands s)) (c.encoded.ensures.in_place bytes);
      encoded = λ t s. subst (λ v. IsEncoded v c.encoded.result) (c.in_ok-after.ensures ∙ ap (edited edit) (one_tree bytes (tree_of c.in-Ok.before) t c.in-Ok.ensures.stands s)) c.encoded.ensures.encoded;
    }
