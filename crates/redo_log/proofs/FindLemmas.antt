-- Going over blocks without frames.
use Rattle.std.proofs.Common.{◌≡◌, ℕ, ◌+◌, ◌-◌, ◌<◌, ◌≤◌, List, [], length, take, drop, Option, Some, None, IfSome, Result, refl, sym, ap, ap₂, subst, ◌∙◌, arith}
use Rattle.std.proofs.lemmas.List.{drop-drop, drop-take}
use Rattle.file_model.specs.Sections.{part}
use Rattle.file_model.specs.Blocks.{LogRead, frames_len, log_in}
use Rattle.redo_log.specs.declared.place.Gate.{Gate}
use Rattle.redo_log.specs.declared.place.Gate.TheVariants.{Open}
use Rattle.redo_log.specs.declared.place.Found.{Found}
use Rattle.redo_log.specs.Scans.{IsGate, FitsGate, Leads, LeadsTo, rest_in}
use Rattle.redo_log.proofs.ScanLemmas.{leads_same, leads_then, at_gate_rest, block_begins}
use Rattle.redo_log.proofs.ReadingLemmas.{HasRead, has_read, has_then}
use Rattle.engine_base.specs.Disk.{DiskState, Stays, GoesOn}
use Rattle.engine_base.specs.declared.fault.Fault.{Fault}

-- a part without its first u bytes is the part that begins u bytes later
pub drop_part : (file : List ℕ) (at n u : ℕ) → u ≤ n → drop u (part file at n) ≡ part file (at + u) (n - u)
unfolding part
drop_part file at n u low =
    let whole : n ≡ u + (n - u) = omega arith in
    ap (λ (k : ℕ). drop u (take k (drop at file))) whole ∙ drop-take u (n - u) (drop at file) ∙ ap (take (n - u)) (drop-drop u at file)

-- a gate that was found, and where
abbrev pub found : ℕ → Gate → Found
found at gate = record { at = at; gate = gate }

pub leads_by : (k m : ℕ) (r s : LogRead) → k ≡ m → Leads [] k r s → Leads [] m r s
leads_by k m r s same leads = let P : ℕ → Type 0 = λ j. Leads [] j r s in subst P same leads

module _ (pages blocks len from : ℕ) (file : List ℕ) where
  abbrev bytes_at : ℕ → List ℕ
  bytes_at at = part file (blocks + at) (len - at)

  pub leads_start : (g : Gate) → IsGate g (part file (blocks + from) (len - from)) → LeadsTo pages blocks len from (found from g) file
  leads_start g is = record { log = leads_by 0 (from - from) _ _ (omega arith) (leads_same _ _ refl); gate = is }

  pub leads_more : (at : ℕ) (g : Gate) → from ≤ at → at + 5 ≤ len → LeadsTo pages blocks len from (found at (Open 0)) file → IsGate g (part file (blocks + (at + 5)) (len - (at + 5)))
      → LeadsTo pages blocks len from (found (at + 5) g) file
  leads_more at g behind inside one is =
      let here = bytes_at at in
      let gate : IsGate (Open 0) here = one.gate in
      let none : frames_len here ≡ 0 = sym gate.1 in
      let e : blocks + at + 5 ≡ blocks + (at + 5) = omega arith in
      let f : len - at - 5 ≡ len - (at + 5) = omega arith in
      let next : drop 5 here ≡ bytes_at (at + 5) = drop_part file (blocks + at) (len - at) 5 (omega (arith, inside)) ∙ ap₂ (part file) e f in
      let P : ℕ → Type 0 = λ n. Leads [] 5 (log_in pages here) (rest_in pages n (drop 5 here)) in
      let fits : 6 + frames_len here ≤ length here = let six = gate.2 in omega (arith, six, none) in
      let Q : List ℕ → Type 0 = λ xs. Leads [] (at - from + 5 + 0) (log_in pages (bytes_at from)) (log_in pages xs) in
      let two = leads_then [] (at - from) 5 _ _ (rest_in pages 0 (drop 5 here)) one.log (subst P none (block_begins pages here gate.0 fits)) in
      let three = leads_then [] (at - from + 5) 0 _ _ (log_in pages (drop 5 here)) two (at_gate_rest pages (drop 5 here)) in
      record { log = leads_by (at - from + 5 + 0) (at + 5 - from) _ _ (omega (arith, behind)) (subst Q next three); gate = is }

-- ---- the loop

module _ (blocks len from : ℕ) where
  pub record GoesOver (at : ℕ) (gate : Gate) (old new : DiskState) : Type 0 where
    pub behind : from ≤ at
    pub inside : at < len
    pub fits : FitsGate gate (len - at)
    pub leads : IfSome old.seen (λ file. (pages : ℕ) → LeadsTo pages blocks len from (found at gate) file)
    pub reads : HasRead old new

pub told_start : (blocks len from : ℕ) (g : Gate) (o : Option (List ℕ)) → IfSome o (λ file. IsGate g (part file (blocks + from) (len - from))) → IfSome o (λ file. (pages : ℕ) → LeadsTo pages blocks len from (found from g) file)
told_start blocks len from g None is = tt
told_start blocks len from g (Some file) is = λ pages. leads_start pages blocks len from file g is

pub told_more : (blocks len from at : ℕ) (g : Gate) (o p : Option (List ℕ)) → p ≡ o → from ≤ at → at + 5 ≤ len → IfSome o (λ file. (pages : ℕ) → LeadsTo pages blocks len from (found at (Open 0)) file)
    → IfSome p (λ file. IsGate g (part file (blocks + (at + 5)) (len - (at + 5)))) → IfSome o (λ file. (pages : ℕ) → LeadsTo pages blocks len from (found (at + 5) g) file)
told_more blocks len from at g None p same behind inside one is = tt
told_more blocks len from at g (Some file) p same behind inside one is =
    let P : Option (List ℕ) → Type 0 = λ q. IfSome q (λ f. IsGate g (part f (blocks + (at + 5)) (len - (at + 5)))) in
    let here = subst P same is in λ pages. leads_more pages blocks len from file at g behind inside (one pages) here

-- over one more block
module _ (blocks len from : ℕ) where
  pub over_one : {T : Type 0} (r : Result T Fault) (at : ℕ) (gate next : Gate) (old mid new : DiskState) → gate ≡ Open 0 → GoesOver blocks len from at gate old mid
      → FitsGate next (len - (at + 5)) → IfSome mid.seen (λ file. IsGate next (part file (blocks + (at + 5)) (len - (at + 5))))
      → Stays mid new → GoesOn mid new r
      → GoesOver blocks len from (at + 5) next old new
  over_one r at gate next old mid new is over fits there stays on =
      let P : Gate → Type 0 = λ g. FitsGate g (len - at) in
      let Q : Gate → Type 0 = λ g. IfSome old.seen (λ file. (pages : ℕ) → LeadsTo pages blocks len from (found at g) file) in
      let six : 6 + 0 ≤ len - at = subst P is over.fits in
      let behind = over.behind in
      record {
        behind = omega (arith, behind);
        inside = omega (arith, six);
        fits = fits;
        leads = told_more blocks len from at next old.seen mid.seen over.reads.stays.reads behind (omega (arith, six)) (subst Q is over.leads) there;
        reads = has_then old mid new over.reads (has_read mid new r stays on);
      }
