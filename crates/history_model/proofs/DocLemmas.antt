-- What calls leave at each document.
use Rattle.std.proofs.Common.{◌≡◌, ℕ, Bool, true, false, true≢false, not, eqb, cond, List, [], ◌∷◌, ◌++◌, Option, Some, None, option_map, refl, sym, ap, ◌∙◌, arith, if◌then◌else◌, ◌||◌, ◌==◌}
use Rattle.std.specs.Ordering.{nat_cmp, is_eq}
use Rattle.std.specs.declared.cmp.Ordering.TheVariants.{Equal}
use Rattle.std.specs.FinMap.Entries.{find-put, find-where_key}
use Rattle.std.proofs.lemmas.Cmp.{nat_cmp_total}
use Rattle.journal_model.specs.Documents.{Docs, look, with_doc, without_doc, Call, Insert, Change, Delete, call_doc, all_by, Kept, keep, changed, fresh}
use Rattle.journal_model.specs.Part.{touches}
use Rattle.journal_model.specs.History.{left_by}

tie : (d e : ℕ) → is_eq (nat_cmp e d) ≡ eqb d e
tie d e = grind arith

tied : (d e : ℕ) → nat_cmp e d ≡ Equal → e ≡ d
tied d e h = grind (arith, h)

put_looked : (docs : Docs Kept) (d e : ℕ) (k : Kept) → look (with_doc docs d k) e ≡ (if eqb d e then Some k else look docs e)
put_looked docs d e k = find-put nat_cmp nat_cmp_total e d k docs ∙ ap (λ b. cond b (Some k) (look docs e)) (tie d e)

same_test : (d x q : ℕ) → nat_cmp q x ≡ Equal → not (eqb x d) ≡ not (eqb q d)
same_test d x q h = ap (λ n. not (eqb n d)) (sym (tied x q h))

turned : (b : Bool) (a c : Option Kept) → cond (not b) a c ≡ cond b c a
turned true a c = refl
turned false a c = refl

out_looked : (docs : Docs Kept) (d e : ℕ) → look (without_doc docs d) e ≡ (if eqb d e then None else look docs e)
out_looked docs d e =
    find-where_key nat_cmp (λ n. not (n == d)) e (λ x h. same_test d x e h) docs
    ∙ turned (eqb e d) (look docs e) None ∙ ap (λ b. cond b None (look docs e)) (let same : eqb e d ≡ eqb d e = grind arith in same)

-- ---- one call

call_looked : (c : Call) (docs : Docs Kept) (e : ℕ) → look (keep c docs) e ≡ (if eqb (call_doc c) e then left_by c (look docs e) else look docs e)
call_looked (Insert d t) docs e = put_looked docs d e (fresh t)
call_looked (Delete d) docs e = out_looked docs d e
call_looked (Change d g) docs e = by_look (look docs d) refl
  where
    at_it : (b : Bool) → eqb d e ≡ b → (k : Kept) → look docs d ≡ Some k
        → (if b then Some (changed g k) else look docs e) ≡ (if b then option_map (changed g) (look docs e) else look docs e)
    at_it true h k found = let one : d ≡ e = grind (arith, h) in ap (option_map (changed g)) (sym (ap (look docs) (sym one) ∙ found))
    at_it false h k found = refl

    at_none : (b : Bool) → eqb d e ≡ b → look docs d ≡ None → look docs e ≡ (if b then option_map (changed g) (look docs e) else look docs e)
    at_none true h found = let one : d ≡ e = grind (arith, h) in rw (ap (look docs) (sym one) ∙ found) refl
    at_none false h found = refl

    by_look : (now : Option Kept) → look docs d ≡ now → look (keep (Change d g) docs) e ≡ (if eqb d e then option_map (changed g) (look docs e) else look docs e)
    by_look None h = rw h (at_none (eqb d e) refl h)
    by_look (Some k) h = rw h (put_looked docs d e (changed g k) ∙ at_it (eqb d e) refl k h)

-- ---- several, at one document

-- what several calls leave of one document
unfoldable pub left_by_all : ℕ → List Call → Option Kept → Option Kept
left_by_all e [] now = now
left_by_all e (c ∷ cs) now = left_by_all e cs (if eqb (call_doc c) e then left_by c now else now)

-- so the documents behind them have it
pub all_looked : (cs : List Call) (docs : Docs Kept) (e : ℕ) → look (all_by keep cs docs) e ≡ left_by_all e cs (look docs e)
unfolding left_by_all
all_looked [] docs e = refl
all_looked (c ∷ cs) docs e = all_looked cs (keep c docs) e ∙ ap (left_by_all e cs) (call_looked c docs e)

-- calls on other documents leave it
pub left_by_none : (e : ℕ) (cs : List Call) (now : Option Kept) → touches e cs ≡ false → left_by_all e cs now ≡ now
unfolding left_by_all
left_by_none e [] now h = refl
left_by_none e (c ∷ cs) now h = by_test (eqb (call_doc c) e) h (λ g. left_by_none e cs now g)
  where
    by_test : (b : Bool) → (b || touches e cs) ≡ false → (touches e cs ≡ false → left_by_all e cs now ≡ now)
        → left_by_all e cs (if b then left_by c now else now) ≡ now
    by_test true g rest = absurd (true≢false g)
    by_test false g rest = rest g

-- with one call more
pub left_by_more : (e : ℕ) (cs : List Call) (c : Call) (now : Option Kept)
    → left_by_all e (cs ++ c ∷ []) now ≡ (if eqb (call_doc c) e then left_by c (left_by_all e cs now) else left_by_all e cs now)
unfolding left_by_all
left_by_more e [] c now = refl
left_by_more e (b ∷ cs) c now = left_by_more e cs c (if eqb (call_doc b) e then left_by b now else now)

-- whether one call more touches it
pub touches_more : (e : ℕ) (cs : List Call) (c : Call) → touches e (cs ++ c ∷ []) ≡ ((eqb (call_doc c) e) || touches e cs)
touches_more e [] c = refl
touches_more e (b ∷ cs) c = ap (λ x. (eqb (call_doc b) e) || x) (touches_more e cs c) ∙ exchanged (eqb (call_doc b) e) (eqb (call_doc c) e) (touches e cs)
  where
    exchanged : (x y z : Bool) → (x || (y || z)) ≡ (y || (x || z))
    exchanged true true z = refl
    exchanged true false z = refl
    exchanged false true z = refl
    exchanged false false z = refl
