use Rattle.std.proofs.Common.{◌++◌, ◌∷◌, [], ◌∙◌, sym, ap, append_assoc}
use Rattle.binary_model.specs.Canonical.{low_bytes}
use Rattle.json_tree.specs.View.{tree_of}
use Rattle.json_binary.specs.View.{form_of}
use Rattle.json_binary.proofs.WriteLemmas.{entry_offset}
use Rattle.json_binary.proofs.codec.writer.push_entry.Goals as goal

pub returns-in_ok-push_word-clause-ok : goal.returns-in_ok-push_word-clause-ok
returns-in_ok-push_word-clause-ok c =
    let old = c.args.out.now.items in
    let form = form_of c.args.form in
    c.in_ok-push_word.ensures.ok ∙ ap (λ xs. xs ++ low_bytes c.word-else-is_inlined.result c.args.offset) c.in_ok-push.ensures.items
    ∙ append_assoc old (c.code.result ∷ []) (low_bytes c.word-else-is_inlined.result c.args.offset)
    ∙ (λ i. old ++ (c.code.ensures i ∷ low_bytes (c.word-else-is_inlined.ensures i) c.args.offset))
    ∙ ap (λ xs. old ++ xs) (entry_offset form (tree_of c.args.tree.now) c.args.measured c.args.offset c.requires (sym c.if-is_inlined.ensures))
