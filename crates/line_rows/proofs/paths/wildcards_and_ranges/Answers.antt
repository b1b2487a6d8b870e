use Rattle.std.proofs.Common.{refl}
use Rattle.std.specs.Fmt.{digits}
use Rattle.std.specs.Str.{is_utf8, chars}
use Rattle.serde_json.proofs.OnLiterals.{serde_json_on_literals}
use Rattle.line_rows.proofs.paths.wildcards_and_ranges.Goals as goal

pub returns-clause-l1 : goal.returns-clause-l1
unfolding serde_json_on_literals digits is_utf8 chars
returns-clause-l1 c = refl

pub returns-clause-l2 : goal.returns-clause-l2
unfolding serde_json_on_literals digits is_utf8 chars
returns-clause-l2 c = refl

pub returns-clause-l3 : goal.returns-clause-l3
unfolding serde_json_on_literals digits is_utf8 chars
returns-clause-l3 c = refl

pub returns-clause-l4 : goal.returns-clause-l4
unfolding serde_json_on_literals digits is_utf8 chars
returns-clause-l4 c = refl

pub returns-clause-l5 : goal.returns-clause-l5
unfolding serde_json_on_literals digits is_utf8 chars
returns-clause-l5 c = refl

pub returns-clause-l6 : goal.returns-clause-l6
unfolding serde_json_on_literals digits is_utf8 chars
returns-clause-l6 c = refl
