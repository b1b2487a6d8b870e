use Rattle.std.proofs.Common.{refl}
use Rattle.std.specs.Fmt.{digits}
use Rattle.std.specs.Str.{is_utf8, chars}
use Rattle.serde_json.proofs.OnLiterals.{serde_json_on_literals}
use Rattle.line_rows.proofs.long.long_lines.Goals as goal

pub returns-clause-too_many : goal.returns-clause-too_many
unfolding serde_json_on_literals digits is_utf8 chars
returns-clause-too_many c = refl

pub returns-clause-too_long : goal.returns-clause-too_long
unfolding serde_json_on_literals digits is_utf8 chars
returns-clause-too_long c = refl

pub returns-clause-too_deep : goal.returns-clause-too_deep
unfolding serde_json_on_literals digits is_utf8 chars
returns-clause-too_deep c = refl

pub returns-clause-deep_and_bad : goal.returns-clause-deep_and_bad
unfolding serde_json_on_literals digits is_utf8 chars
returns-clause-deep_and_bad c = refl

pub returns-clause-leg_too_many : goal.returns-clause-leg_too_many
unfolding serde_json_on_literals digits is_utf8 chars
returns-clause-leg_too_many c = refl

pub returns-clause-wildcard_there : goal.returns-clause-wildcard_there
unfolding serde_json_on_literals digits is_utf8 chars
returns-clause-wildcard_there c = refl
