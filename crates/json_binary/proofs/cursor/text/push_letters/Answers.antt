use Rattle.std.proofs.Common.{sym, ◌∙◌}
use Rattle.json_binary.specs.Place.{spot_of}
use Rattle.json_binary.proofs.TextLemmas.{letters_text, on_ok}
use Rattle.json_binary.proofs.cursor.text.push_letters.Goals as goal

pub returns-in-Some-clause-ok : goal.returns-in-Some-clause-ok
returns-in-Some-clause-ok c =
    on_ok _ _ c.push_quoted_bytes.result (λ h t v. letters_text c.args.bytes.now (spot_of c.args.spot) c.args.out.now.items c.push_quoted_bytes.new.out.items (c.in-Some.start, c.in-Some.end) t c.requires.kind (sym c.text_range.ensures.range ∙ c.in-Some.is) h v)
    c.push_quoted_bytes.ensures.ok
