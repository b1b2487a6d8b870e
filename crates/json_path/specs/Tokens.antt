-- The text that a token of JSON has.
use Rattle.std.specs.Prelude.{ℕ, List, Option, Some, None}
use Rattle.json.specs.Token.{Token, begin_object, end_object, begin_array, end_array, key, string, number, boolean, null, bad}

abbrev pub string_text : Token → Option (List ℕ)
string_text begin_object = None
string_text end_object = None
string_text begin_array = None
string_text end_array = None
string_text (key s) = Some s
string_text (string s) = Some s
string_text (number s) = None
string_text (boolean b) = None
string_text null = None
string_text bad = None
