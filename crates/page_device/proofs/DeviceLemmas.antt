-- What the writes of the device do to a file.
use Rattle.std.proofs.Common.{◌≡◌, ℕ, ◌%◌, ◌≤◌, List, [], ◌∷◌, length, sym, ap, ◌∙◌, subst, arith, Option, Some, None, IfSome, Result, Ok, Err, OnOk}
use Rattle.std.proofs.Math.Nat.{mod-eq_of_lt}
use Rattle.engine_base.specs.Disk.{Torn, Written, Holds, Told, Follows}
use Rattle.page_model.specs.Pages.{page_bytes}
use Rattle.file_model.specs.declared.layout.Layout.{Layout}
use Rattle.file_model.specs.Sections.{part, live_place, page_place}
use Rattle.file_model.proofs.PartLemmas.{torn_elsewhere, held_each, held_whole}
use Rattle.engine_base.proofs.CrashLemmas.{told_map}
use Rattle.page_device.specs.Device.{SetsLive, MaySetLive, SetsPage, MaySetPage}

-- a write of the live byte that may be cut short changes that byte alone
pub live_torn : (a b : List ℕ) → Torn live_place 1 a b → MaySetLive a b
live_torn a b torn = torn_elsewhere live_place 1 a b torn

-- the live byte written as a region's number makes this region the live one
pub live_set : (region : ℕ) → region ≤ 1 → (a b : List ℕ) → Written live_place (region ∷ []) a b → SetsLive region a b
live_set region most a b written = record {
  live = ap (λ (n : ℕ). n % 2) (held_each b (region ∷ []) live_place 0 (written.holds (omega arith)) (omega arith)) ∙ mod-eq_of_lt (omega arith);
  others = live_torn a b written.torn;
}

pub page_torn : (l : Layout) (page : ℕ) (bytes : List ℕ) → length bytes ≡ page_bytes → (a b : List ℕ) → Torn (page_place l page) (length bytes) a b → MaySetPage l page a b
page_torn l page bytes long a b torn =
    let P : ℕ → Type 0 = λ n. Torn (page_place l page) n a b in
    torn_elsewhere (page_place l page) page_bytes a b (subst P long torn)

pub page_set : (l : Layout) (page : ℕ) (bytes : List ℕ) → length bytes ≡ page_bytes → (a b : List ℕ) → Written (page_place l page) bytes a b → SetsPage l page bytes a b
page_set l page bytes long a b written = record {
  here = held_whole b bytes (page_place l page) page_bytes (written.holds (omega (arith, long))) long;
  others = page_torn l page bytes long a b written.torn;
}

-- ---- as the code has it

module _ (l : Layout) (page at : ℕ) (bytes lent : List ℕ) (place : at ≡ page_place l page) (same : lent ≡ bytes) (long : length lent ≡ page_bytes) where
  abbrev T : ℕ → List ℕ → List ℕ → List ℕ → Type 0
  T k xs a b = Torn k (length xs) a b

  torn_code : (a b : List ℕ) → Torn at (length lent) a b → MaySetPage l page a b
  torn_code a b torn = page_torn l page lent long a b (subst (λ (k : ℕ). Torn k (length lent) a b) place torn)

  pub told_torn : (o p : Option (List ℕ)) → Told (Torn at (length lent)) o p → Told (MaySetPage l page) o p
  told_torn = told_map (Torn at (length lent)) (MaySetPage l page) torn_code

  pub follows_torn : (old new : List ℕ → Type 0) → Follows (Torn at (length lent)) old new → Follows (MaySetPage l page) old new
  follows_torn old new follows c left = let was = follows c left in (was.0, was.1, torn_code was.0 c was.2)

  written_code : (a b : List ℕ) → Written at lent a b → SetsPage l page bytes a b
  written_code a b written = subst (λ (xs : List ℕ). SetsPage l page xs a b) same (page_set l page lent long a b (subst (λ (k : ℕ). Written k lent a b) place written))

  pub told_set : {V E : Type 0} (r : Result V E) (o p : Option (List ℕ)) → OnOk r (Told (Written at lent) o p) → OnOk r (Told (SetsPage l page bytes) o p)
  told_set (Ok x) o p told = told_map (Written at lent) (SetsPage l page bytes) written_code o p told
  told_set (Err e) o p told = tt

-- bytes that were read
pub read_part : {V E : Type 0} (r : Result V E) (o : Option (List ℕ)) (at at' n : ℕ) (bytes into : List ℕ) → at ≡ at' → length bytes ≡ n → into ≡ bytes → OnOk r (IfSome o (λ file. Holds file at bytes))
    → OnOk r (IfSome o (λ file. into ≡ part file at' n))
read_part (Err e) o at at' n bytes into place long same holds = tt
read_part (Ok x) None at at' n bytes into place long same holds = tt
read_part (Ok x) (Some file) at at' n bytes into place long same holds = same ∙ sym (held_whole file bytes at n holds long) ∙ ap (λ (k : ℕ). part file k n) place
