-- Spans without a common byte: parts of them, and lists of them.
use Rattle.std.proofs.Common.{inl, inr, ℕ, ◌+◌, ◌≤◌, List, [], ◌∷◌, ◌++◌, sym, arith}
use Rattle.page_model.specs.Spans.{Span, span, IsApart, IsApartFromAll, AreApart, ArePairwiseApart}

-- apart holds both ways
pub apart_sym : (s t : Span) → IsApart s t → IsApart t s
apart_sym s t (inl other) = inl (λ e. other (sym e))
apart_sym s t (inr (inl before)) = inr (inr before)
apart_sym s t (inr (inr behind)) = inr (inl behind)

-- parts of spans that are apart
pub apart_parts : (p a n a' n' q b m b' m' : ℕ) → a ≤ a' → a' + n' ≤ a + n → b ≤ b' → b' + m' ≤ b + m → IsApart (span p a n) (span q b m) → IsApart (span p a' n') (span q b' m')
apart_parts p a n a' n' q b m b' m' h1 h2 h3 h4 (inl other) = inl other
apart_parts p a n a' n' q b m b' m' h1 h2 h3 h4 (inr (inl before)) = inr (inl (omega arith))
apart_parts p a n a' n' q b m b' m' h1 h2 h3 h4 (inr (inr behind)) = inr (inr (omega arith))

-- a span apart from others, and these from it
pub apart_flip : (ts : List Span) (s : Span) → IsApartFromAll ts s → AreApart (s ∷ []) ts
apart_flip [] s apart = tt
apart_flip (t ∷ ts) s apart = ((apart_sym t s apart.0, tt), apart_flip ts s apart.1)

-- one span more
pub apart_cons : (s : Span) (ss ts : List Span) → AreApart (s ∷ []) ts → AreApart ss ts → AreApart (s ∷ ss) ts
apart_cons s ss [] one all = tt
apart_cons s ss (t ∷ ts) one all = ((one.0.0, all.0), apart_cons s ss ts one.1 all.1)

-- a part of a span is apart from what the span is
pub apart_narrow : (page at size at' size' : ℕ) (ts : List Span) → at ≤ at' → at' + size' ≤ at + size → AreApart (span page at size ∷ []) ts → AreApart (span page at' size' ∷ []) ts
apart_narrow page at size at' size' [] low high apart = tt
apart_narrow page at size at' size' (t ∷ ts) low high apart = (
  (apart_sym t (span page at' size') (apart_part_first t page at size at' size' low high (apart_sym (span page at size) t apart.0.0)), tt),
  apart_narrow page at size at' size' ts low high apart.1,
)
  where
    apart_part_first : (s : Span) (page at size at' size' : ℕ) → at ≤ at' → at' + size' ≤ at + size → IsApart s (span page at size) → IsApart s (span page at' size')
    apart_part_first s page at size at' size' low high (inl other) = inl other
    apart_part_first s page at size at' size' low high (inr (inl before)) = inr (inl (omega arith))
    apart_part_first s page at size at' size' low high (inr (inr behind)) = inr (inr (omega arith))

-- a span apart from two lists
pub from_split : (ss ts : List Span) (u : Span) → IsApartFromAll (ss ++ ts) u → IsApartFromAll ss u × IsApartFromAll ts u
from_split [] ts u apart = (tt, apart)
from_split (s ∷ ss) ts u apart = let rest = from_split ss ts u apart.1 in ((apart.0, rest.0), rest.1)

-- a span apart from each of two lists
pub from_join : (ss ts : List Span) (u : Span) → IsApartFromAll ss u → IsApartFromAll ts u → IsApartFromAll (ss ++ ts) u
from_join [] ts u a b = b
from_join (s ∷ ss) ts u a b = (a.0, from_join ss ts u a.1 b)

-- the first of two lists
pub pairwise_left : (ss ts : List Span) → ArePairwiseApart (ss ++ ts) → ArePairwiseApart ss
pairwise_left [] ts apart = tt
pairwise_left (s ∷ ss) ts apart = ((from_split ss ts s apart.0).0, pairwise_left ss ts apart.1)

-- the second of two lists
pub pairwise_right : (ss ts : List Span) → ArePairwiseApart (ss ++ ts) → ArePairwiseApart ts
pairwise_right [] ts apart = apart
pairwise_right (s ∷ ss) ts apart = pairwise_right ss ts apart.1

-- the spans of one list and those of the other
pub pairwise_across : (ss ts : List Span) → ArePairwiseApart (ss ++ ts) → AreApart ss ts
pairwise_across [] [] apart = tt
pairwise_across [] (t ∷ ts) apart = (tt, pairwise_across [] ts apart.1)
pairwise_across (s ∷ ss) ts apart = apart_cons s ss ts (apart_flip ts s (from_split ss ts s apart.0).1) (pairwise_across ss ts apart.1)

-- one span fewer
pub pairwise_without : (ss : List Span) (t : Span) (ts : List Span) → ArePairwiseApart (ss ++ t ∷ ts) → ArePairwiseApart (ss ++ ts)
pairwise_without [] t ts apart = apart.1
pairwise_without (s ∷ ss) t ts apart = let parts = from_split ss (t ∷ ts) s apart.0 in (from_join ss ts s parts.0 parts.1.1, pairwise_without ss t ts apart.1)
