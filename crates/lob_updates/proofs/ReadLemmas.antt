-- Runs of bytes as they are read, one after another.
use Rattle.std.proofs.Common.{◌≡◌, ℕ, ◌+◌, ◌-◌, ◌<◌, ◌≤◌, ◌&&◌, Bool, true, nat_le, List, [], ◌∷◌, ◌++◌, length, Option, Some, None, IfSome, refl, sym, ap, ap₂, subst, ◌∙◌, lit≤, arith}
use Rattle.std.proofs.lemmas.Bool.{lt-ltb, le-leb}
use Rattle.page_model.specs.Pages.{Pages}
use Rattle.page_model.specs.Steps.{PageState, MayUse, Uses}
use Rattle.page_model.proofs.StepLemmas.{may_less, may_within, uses_more, uses_within, within_one, within_right}
use Rattle.store_data.specs.Store.{Run}
use Rattle.page_space.specs.Map.{IsSize}
use Rattle.undo_model.specs.Data.{patched}
use Rattle.undo_model.specs.Old.{old_size}
use Rattle.undo_model.specs.Reading.{RunsFit, AreSoundRuns, IsSoundBody, is_run}
use Rattle.store_model.specs.Moves.{ArePaired}
use Rattle.store_steps.specs.Runs.{run_pages}
use Rattle.lob_updates.specs.Patches.{run_there, runs_there}
use Rattle.lob_updates.specs.Reads.{ReadsTo}

joined : (xs ys zs : List Run) → (xs ++ ys) ++ zs ≡ xs ++ (ys ++ zs)
joined [] ys zs = refl
joined (x ∷ xs) ys zs = ap (λ (rs : List Run). x ∷ rs) (joined xs ys zs)

all_of : (xs : List Run) → xs ++ [] ≡ xs
all_of [] = refl
all_of (x ∷ xs) = ap (λ (rs : List Run). x ∷ rs) (all_of xs)

paired_then : (os ns ps qs : List Run) → ArePaired os ns → ArePaired ps qs
    → ArePaired (os ++ ps) (ns ++ qs)
paired_then [] [] ps qs first rest = rest
paired_then [] (n ∷ ns) ps qs first rest = absurd first
paired_then (o ∷ os) [] ps qs first rest = absurd first
paired_then (o ∷ os) (n ∷ ns) ps qs first rest =
    (first.0, first.1, first.2, paired_then os ns ps qs first.3 rest)

there_then : (pages : Pages) (rs ss : List Run)
    → runs_there pages (rs ++ ss) ≡ runs_there pages rs ++ runs_there pages ss
there_then pages [] ss = refl
there_then pages (r ∷ rs) ss =
    ap (λ (xs : List Run). run_there pages r ∷ xs)
    (there_then pages rs ss)

told_then : (told : Option Pages) (xs ys rs ss : List Run)
    → IfSome told (λ pages. xs ≡ runs_there pages rs)
    → IfSome told (λ pages. ys ≡ runs_there pages ss)
    → IfSome told (λ pages. xs ++ ys ≡ runs_there pages (rs ++ ss))
told_then None xs ys rs ss one two = tt
told_then (Some pages) xs ys rs ss one two =
    ap₂ (λ (ms ns : List Run). ms ++ ns) one two ∙ sym (there_then pages rs ss)

pub reads_then : (told : Option Pages) (old mid new : List Run) (r : Run) (rs : List Run)
    → ReadsTo told old (r ∷ []) mid → ReadsTo told mid rs new → ReadsTo told old (r ∷ rs) new
reads_then told old mid new r rs one two = record {
  read = one.read ++ two.read;
  is = two.is ∙ ap (λ (xs : List Run). xs ++ two.read) one.is ∙ joined old one.read two.read;
  paired = paired_then one.read (r ∷ []) two.read rs one.paired two.paired;
  there = told_then told one.read two.read (r ∷ []) rs one.there two.there;
}

pub reads_none : (told : Option Pages) (old : List Run) → ReadsTo told old [] old
reads_none told old = record {
  read = [];
  is = sym (all_of old);
  paired = tt;
  there = none told;
}
  where
    none : (told : Option Pages) → IfSome told (λ pages. [] ≡ runs_there pages [])
    none None = tt
    none (Some pages) = refl

-- ---- how many there are

size_joined : (xs ys : List Run) → old_size (xs ++ ys) ≡ old_size xs + old_size ys
size_joined [] ys = omega arith
size_joined (x ∷ xs) ys = let r = size_joined xs ys in omega (arith, r)

length_joined : (xs ys : List Run) → length (xs ++ ys) ≡ length xs + length ys
length_joined [] ys = omega arith
length_joined (x ∷ xs) ys = let r = length_joined xs ys in omega (arith, r)

pub paired_size : (os ns : List Run) → ArePaired os ns
    → (length os ≡ length ns) × (old_size os ≡ old_size ns)
paired_size [] [] are = (refl, refl)
paired_size [] (n ∷ ns) are = absurd are
paired_size (o ∷ os) [] are = absurd are
paired_size (o ∷ os) (n ∷ ns) are =
    let r = paired_size os ns are.3 in
    ((let l = r.0 in omega (arith, l)), (let e = are.2 in let s = r.1 in omega (arith, e, s)))

pub one_read : (told : Option Pages) (old new : List Run) (r : Run) → ReadsTo told old (r ∷ []) new
    → (length new ≡ length old + 1) × (old_size new ≡ old_size old + length r.bytes)
one_read told old new r reads =
    let p = paired_size reads.read (r ∷ []) reads.paired in
    let l = length_joined old reads.read in
    let s = size_joined old reads.read in
    let l' = ap (λ (xs : List Run). length xs) reads.is in
    let s' = ap old_size reads.is in
    let p0 = p.0 in
    let p1 = p.1 in
    (omega (arith, l, l', p0), omega (arith, s, s', p1))

-- ---- a record can keep them

is_run_there : (count page at size : ℕ) → page < count → at + size ≤ 16384
    → is_run count page at size ≡ true
is_run_there count page at size there within =
    ap (λ (b : Bool). b && nat_le (at + size) 16384) (lt-ltb page count there)
    ∙ le-leb (at + size) 16384 within

sound_runs : (count left : ℕ) (os ns : List Run) → count ≤ 4294967295 → ArePaired os ns
    → RunsFit count ns → old_size ns ≤ left → AreSoundRuns count left os
sound_runs count left [] [] few are fit small = tt
sound_runs count left [] (n ∷ ns) few are fit small = absurd are
sound_runs count left (o ∷ os) [] few are fit small = absurd are
sound_runs count left (o ∷ os) (n ∷ ns) few are fit small =
    let p = are.0 in
    let a = are.1 in
    let l = are.2 in
    let f = fit.0 in
    let w = fit.1 in (
      omega (arith, p, f, few),
      omega (arith, a, w),
      omega (arith, l, small),
      is_run_there count o.page o.at (length o.bytes) (omega (arith, p, f)) (omega (arith, a, l, w)),
      sound_runs count (left - length o.bytes) os ns few are.3 fit.2 (omega (arith, l, small)),
    )

pub sound_old : (count : ℕ) (told : Option Pages) (ns old : List Run) → IsSize count
    → ReadsTo told [] ns old → RunsFit count ns → length ns ≤ 100 → old_size ns ≤ 100
    → IsSoundBody count (patched old)
sound_old count told ns old size reads fit many small =
    subst (λ (os : List Run). IsSoundBody count (patched os)) (sym reads.is) (
      (let p = paired_size reads.read ns reads.paired in let p0 = p.0 in omega (arith, p0, many)),
      sound_runs count 100 reads.read ns (let f = size.few in omega (arith, f)) reads.paired fit small,
    )

-- ---- what reading a run may use, and what it used

pub may_read : (r : Run) (rs : List Run) (s : PageState) → MayUse (run_pages (r ∷ rs)) 0 0 s
    → MayUse (r.page ∷ []) 0 0 s
may_read r rs s may =
    may_less (run_pages (r ∷ rs)) (r.page ∷ []) 0 0 0 0 s may (within_one r.page (run_pages rs))
    (lit≤ tt) (lit≤ tt)

pub may_read_on : {T : Type 0} {state : T → PageState} {stays : T → T → Type 0} (r : Run)
    (rs : List Run) (s t : T) → MayUse (run_pages (r ∷ rs)) 0 0 (state s)
    → Uses state stays (r.page ∷ []) 0 0 s t → MayUse (run_pages rs) 0 0 (state t)
may_read_on r rs s t may uses =
    may_within (run_pages (r ∷ rs)) (run_pages rs) 0 0 0 0 0 0 s t
    (within_right (r.page ∷ []) (run_pages rs)) (lit≤ tt) (lit≤ tt) may
    (uses_more (r.page ∷ []) (run_pages (r ∷ rs)) 0 0 0 0 s t uses (within_one r.page (run_pages rs))
    (lit≤ tt) (lit≤ tt))

pub uses_read : {T : Type 0} {state : T → PageState} {stays : T → T → Type 0} (r : Run)
    (rs : List Run) (s t : T) → Uses state stays (r.page ∷ []) 0 0 s t
    → Uses state stays (run_pages (r ∷ rs)) 0 0 s t
uses_read r rs s t uses =
    uses_more (r.page ∷ []) (run_pages (r ∷ rs)) 0 0 0 0 s t uses (within_one r.page (run_pages rs))
    (lit≤ tt) (lit≤ tt)

pub uses_read_on : {T : Type 0} {state : T → PageState} {stays : T → T → Type 0}
    (add : (a b c : T) → stays a b → stays b c → stays a c) (r : Run) (rs : List Run) (s t u : T)
    → Uses state stays (r.page ∷ []) 0 0 s t → Uses state stays (run_pages rs) 0 0 t u
    → Uses state stays (run_pages (r ∷ rs)) 0 0 s u
uses_read_on add r rs s t u first rest =
    uses_within add (run_pages (r ∷ rs)) (run_pages rs) 0 0 0 0 s t u
    (within_right (r.page ∷ []) (run_pages rs)) (uses_read r rs s t first) rest
