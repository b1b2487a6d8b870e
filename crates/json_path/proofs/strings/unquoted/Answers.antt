use Rattle.std.proofs.Common.{sym, ◌∙◌}
use Rattle.json_path.proofs.Tokens.{some_token}
use Rattle.json_path.proofs.strings.unquoted.Goals as goal

pub returns-in_default : goal.returns-in_default
returns-in_default c = some_token c.args.text.now (sym c.in_ok-reader.ensures.ok ∙ c.in_default.ensures.value.0) c.requires
