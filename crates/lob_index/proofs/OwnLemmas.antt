-- Pages of a LOB's own that are written, and what the map is then.
use Rattle.std.proofs.Common.{◌≡◌, inl, inr, ℕ, ◌<◌, ◌≤◌, ◌==◌, List, [], ◌∷◌, ◌++◌, map, sym, ap, subst, ◌∙◌, arith}
use Rattle.std.proofs.lemmas.Bool.{cases_eq, ne_eqb}
use Rattle.page_model.specs.Pages.{Pages}
use Rattle.page_model.specs.Spans.{Span, span, IsOff, IsOffAll, AreApart, SameOutside}
use Rattle.page_model.specs.Counts.{one_if, times}
use Rattle.page_model.proofs.CountLemmas.{times_here}
use Rattle.page_model.proofs.FrameLemmas.{outside_then, outside_wider, off_part}
use Rattle.page_space.specs.Map.{IsMap, bit, place_of, map_spans}
use Rattle.lob_model.specs.Places.{whole_page}
use Rattle.store_parts.specs.Keeps.{Keeps}
use Rattle.store_parts.proofs.CountLemmas.{on_pages, apart_on}
use Rattle.store_parts.proofs.KeepLemmas.{keeps_write}
use Rattle.lob_index.specs.Use.{AreUsed, GivesPages}
use Rattle.lob_index.proofs.UseLemmas.{bit_kept, free_kept, map_on, used_on, gives_none}

-- these pages, whole
abbrev pub pages_of : List ℕ → List Span
pages_of ns = map whole_page ns

none : {A : Type 0} → 1 ≤ 0 → A
none h = absurd (omega arith)

-- ---- spans of whole pages

off_at : (ns : List ℕ) (m n k : ℕ) → 1 ≤ times m ns → IsOffAll (pages_of ns) n k → IsOff (whole_page m) n k
off_at [] m n k some off = none some
off_at (x ∷ xs) m n k some off = elim (cases_eq x m) [
  | inl same ↦ let P : ℕ → Type 0 = λ j. IsOff (whole_page j) n k in subst P same off.0
  | inr other ↦ off_at xs m n k (let z : one_if (x == m) ≡ 0 = ap one_if (ne_eqb x m other) in omega (arith, z, some)) off.1
]

-- a byte off some pages is off fewer
pub off_fewer : (ns ms : List ℕ) (n k : ℕ) → ((j : ℕ) → times j ms ≤ times j ns) → IsOffAll (pages_of ns) n k → IsOffAll (pages_of ms) n k
off_fewer ns [] n k less off = tt
off_fewer ns (m ∷ ms) n k less off = (
  off_at ns m n k (let l = less m in let h = times_here m ms in omega (arith, l, h)) off,
  off_fewer ns ms n k (λ j. let l = less j in omega (arith, l)) off,
)

-- a byte off both
pub off_join : (xs ys : List Span) (n k : ℕ) → IsOffAll xs n k → IsOffAll ys n k → IsOffAll (xs ++ ys) n k
off_join [] ys n k a b = b
off_join (x ∷ xs) ys n k a b = (a.0, off_join xs ys n k a.1 b)

-- two changes within the same pages
pub same_twice : (own : List ℕ) (a b c : Pages) → SameOutside (pages_of own) a b → SameOutside (pages_of own) b c → SameOutside (pages_of own) a c
same_twice own a b c first second = outside_wider (pages_of own ++ pages_of own) (pages_of own) a c (λ n k off. off_join (pages_of own) (pages_of own) n k off off)
    (outside_then (pages_of own) (pages_of own) a b c first second)

-- a change within fewer pages
pub same_fewer : (ns ms : List ℕ) (a b : Pages) → ((j : ℕ) → times j ms ≤ times j ns) → SameOutside (pages_of ms) a b → SameOutside (pages_of ns) a b
same_fewer ns ms a b less same = outside_wider (pages_of ms) (pages_of ns) a b (λ n k off. off_fewer ns ms n k less off) same

-- ---- the map, where page 0 isn't among them

module _ (own : List ℕ) (old new : Pages) (clear : times 0 own ≡ 0) (same : SameOutside (pages_of own) old new) where
  -- each page is used as it was
  pub bit_same : (n : ℕ) → bit new n ≡ bit old n
  bit_same = bit_kept own (pages_of own) old new same (on_pages own) clear

  -- the map stands
  pub map_same : IsMap old → IsMap new
  map_same = map_on own (pages_of own) old new same (on_pages own) clear

  -- the pages that are used stay so
  pub used_same : (ns : List ℕ) → AreUsed old ns → AreUsed new ns
  used_same = used_on own (pages_of own) old new same (on_pages own) clear

  -- no page is given back
  pub gives_nothing : IsMap old → GivesPages [] old new
  gives_nothing = gives_none own (pages_of own) old new same (on_pages own) clear

  -- what is given back behind such a change
  pub gives_behind : (ns : List ℕ) (last : Pages) → GivesPages ns new last → GivesPages ns old last
  gives_behind ns last is = record {
    used = λ n some. sym (bit_same n) ∙ is.used n some;
    free = is.free;
    others = λ n h. is.others n h ∙ bit_same n;
    more = let f = free_kept own (pages_of own) old new same (on_pages own) clear in let m = is.more in omega (arith, f, m);
    map = is.map;
  }

  -- the rest of a store is kept
  pub keeps_own : Keeps [] own own old new
  keeps_own = keeps_write [] own (pages_of own) old new (λ n. omega arith) tt same (on_pages own)

-- the bytes of the map are apart from pages without page 0
pub map_apart : (own : List ℕ) (page : ℕ) → times 0 own ≡ 0 → AreApart (span 0 62 4 ∷ span 0 (place_of page) 1 ∷ []) (pages_of own)
map_apart own page clear = apart_on (0 ∷ []) own (span 0 62 4 ∷ span 0 (place_of page) 1 ∷ []) (pages_of own) away (times_here 0 [], (times_here 0 [], tt)) (on_pages own)
  where
    away : (n : ℕ) → 1 ≤ times n own → times n (0 ∷ []) ≡ 0
    away n some = elim (cases_eq 0 n) [
      | inl same ↦ none (let e : times 0 own ≡ times n own = ap (λ m. times m own) same in omega (arith, e, clear, some))
      | inr other ↦ (let z : one_if (0 == n) ≡ 0 = ap one_if (ne_eqb 0 n other) in omega (arith, z))
    ]

-- own pages changed, and then the map
pub then_map : (own : List ℕ) (page : ℕ) (old mid new : Pages) → page < 32_768 → SameOutside (pages_of own) old mid → SameOutside (span 0 62 4 ∷ span 0 (place_of page) 1 ∷ []) mid new
    → SameOutside (map_spans ++ pages_of own) old new
then_map own page old mid new below first second =
    let one = span 0 62 4 ∷ span 0 (place_of page) 1 ∷ [] in
    outside_wider (pages_of own ++ one) (map_spans ++ pages_of own) old new
    (λ n k off. off_join (pages_of own) one n k off.1.1 (off.0, (off_part 0 128 4_096 (place_of page) 1 n k (omega arith) (omega (arith, below)) off.1.0, tt)))
    (outside_then (pages_of own) one old mid new first second)
