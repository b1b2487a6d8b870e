-- The first token of a text that begins with a quote.
use Rattle.std.proofs.Common.{◌≡◌, ℕ, List, [], ◌∷◌, Bool, true, false, Option, Some, None, refl, ap, ◌∙◌, sym, get_or, drop, arith}
use Rattle.json.specs.Token.{Token}
use Rattle.json.specs.Text.{content, plain}
use Rattle.json.specs.Lex.{lex, punctuate, tokens, place_token, string_token, begins_colon, fresh, in_string, Place}
use Rattle.json_path.specs.Tokens.{string_text}

-- the text of the first token
abbrev pub first_text_of : List Token → Option (List ℕ)
first_text_of [] = None
first_text_of (t ∷ ts) = string_text t

placed : (o : Option (List ℕ)) (colon : Bool) (k : Place → List Token) → first_text_of (place_token fresh (string_token o) colon k) ≡ o
placed None colon k = refl
placed (Some s) true k = refl
placed (Some s) false k = refl

pub quote_first : (xs : List ℕ) → first_text_of (tokens (34 ∷ xs)) ≡ content plain xs
unfolding lex punctuate
quote_first xs = placed (content plain xs) (begins_colon (lex in_string xs)) (λ next. punctuate next (lex in_string xs))

-- a key in quotes is the text of the first token
pub first_text : (bs : List ℕ) (t : Token) (ts : List Token) → tokens bs ≡ t ∷ ts → get_or bs 0 0 ≡ 34 → string_text t ≡ content plain (drop 1 bs)
first_text [] t ts e h = absurd (omega (arith, h))
first_text (c ∷ bs) t ts e h = sym (ap first_text_of e) ∙ ap (λ x. first_text_of (tokens (x ∷ bs))) h ∙ quote_first bs

-- a quote begins a token, or no text is there
pub some_token : (bs : List ℕ) → tokens bs ≡ [] → get_or bs 0 0 ≡ 34 → None ≡ content plain (drop 1 bs)
some_token [] e h = absurd (omega (arith, h))
some_token (c ∷ bs) e h = sym (ap first_text_of e) ∙ ap (λ x. first_text_of (tokens (x ∷ bs))) h ∙ quote_first bs
