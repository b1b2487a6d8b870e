-- Laws of `overlaid`: what it is inside a file and past its end, and that a disk may do it.
use Rattle.std.proofs.Common.{◌≡◌, ℕ, ◌+◌, ◌-◌, ◌<◌, ◌≤◌, ap, max, List, ◌++◌, length, take, drop, replicate, arith, rules}
use Rattle.std.proofs.lemmas.List.{places, same_lists, take_all}
use Rattle.engine_base.specs.Disk.{Holds, Torn, Written}
use Rattle.mem_disk.specs.SureDisk.{overlaid}

-- bytes that end within the file stand between what was in front of them and behind
pub overlaid-inside : (file : List ℕ) (at : ℕ) (bytes : List ℕ) → at + length bytes ≤ length file → overlaid file at bytes ≡ take at file ++ (bytes ++ drop (at + length bytes) file)
unfolding overlaid
overlaid-inside file at bytes h = let none : at - length file ≡ 0 = omega arith in rw none

-- bytes that end past the file are put over the file grown with zeros up to their end
pub overlaid-grown : (file : List ℕ) (at : ℕ) (bytes : List ℕ) → length file < at + length bytes
    → overlaid file at bytes
    ≡ take at (file ++ replicate (at + length bytes - length file) 0) ++ (bytes ++ drop (at + length bytes) (file ++ replicate (at + length bytes - length file) 0))
unfolding overlaid
overlaid-grown file at bytes h = same_lists _ _ (search (rules, places)) (λ k d h. grind (arith, places))

-- the file stays as long as it was, or reaches to the bytes' end where that is further
pub length-overlaid : (file : List ℕ) (at : ℕ) (bytes : List ℕ) → length (overlaid file at bytes) ≡ max (length file) (at + length bytes)
unfolding overlaid
length-overlaid file at bytes = search (rules, places)

pub Holds-overlaid : (file : List ℕ) (at : ℕ) (bytes : List ℕ) → Holds (overlaid file at bytes) at bytes
unfolding overlaid
Holds-overlaid file at bytes = record {
  within = search (rules, places);
  each = same_lists _ _ (search (rules, places)) (λ k d h. grind (arith, places));
}

-- the bytes put over the file are a case of a write there that may be cut short
pub Torn-overlaid : (file : List ℕ) (at : ℕ) (bytes : List ℕ) → Torn at (length bytes) file (overlaid file at bytes)
unfolding overlaid
Torn-overlaid file at bytes = record {
  no_shorter = search (rules, places);
  no_longer = search (rules, places);
  before = same_lists _ _ (search (rules, places)) (λ k d h. grind (arith, places));
  after = same_lists _ _ (search (rules, places)) (λ k d h. grind (arith, places));
}

-- the bytes put over the file are a write that was made
pub written_overlaid : (file : List ℕ) (at : ℕ) (bytes : List ℕ) → Written at bytes file (overlaid file at bytes)
written_overlaid file at bytes = record { torn = Torn-overlaid file at bytes; holds = λ some. Holds-overlaid file at bytes }

-- a write may leave the file as it was
pub torn_same : (file : List ℕ) (at n : ℕ) → Torn at n file file
torn_same file at n =
    let whole = take_all (length file) file (omega arith) in
    record { no_shorter = omega arith; no_longer = omega arith; before = ap (take at) whole; after = ap (drop (at + n)) whole }
