-- The steps of a scan, from place to place.
use Rattle.std.proofs.Common.{◌≡◌, ◌⊎◌, inl, inr, ⊎_elim, ℕ, zero, suc, ◌+◌, ◌-◌, ◌<◌, ◌≤◌, Bool, true, false, List, [], ◌∷◌, length, take, drop, Option, Some, None, IfSome, if◌then◌else◌, refl, sym, ap, ap₂, subst, ◌∙◌, arith}
use Rattle.std.proofs.lemmas.Bool.{cases_Bool}
use Rattle.std.proofs.lemmas.List.{take-take}
use Rattle.byteorder.specs.Endian.{big_number}
use Rattle.engine_base.specs.Disk.{Holds}
use Rattle.page_model.specs.Frames.{writes_in, HasHeader, HoldsFrame, IsFrame}
use Rattle.mini_trx.specs.Groups.{GroupView}
use Rattle.page_model.proofs.ParseLemmas.{frame_parts}
use Rattle.file_model.specs.declared.layout.Layout.{Layout}
use Rattle.file_model.specs.Sections.{part, blocks_place, wanted, IsInLimits}
use Rattle.file_model.specs.Frames.{Group, is_frame, first_bytes, IsLoggable}
use Rattle.file_model.specs.Blocks.{LogRead, log_end, ends_early, log_in, log_of, blocks_in, blocks_len, region_room}
use Rattle.file_model.proofs.PartLemmas.{length-part, held_whole}
use Rattle.file_model.proofs.FrameLemmas.{loggable_read}
use Rattle.file_model.proofs.InsideLemmas.{frame_holds, holds_frame}
use Rattle.redo_log.specs.declared.place.Gate.{Gate}
use Rattle.redo_log.specs.declared.place.Gate.TheVariants.{Closed, Early, Open}
use Rattle.redo_log.specs.declared.place.Found.{Found}
use Rattle.redo_log.specs.declared.place.Place.{Place}
use Rattle.redo_log.specs.Scans.{IsGate, Leads, LeadsTo, rest_in, rest_of, end_at, end_of, blocks_from, Advances, writes_of, IsHead, IsTaken}
use Rattle.redo_log.proofs.ScanLemmas.{leads_same, leads_then, at_gate_rest, gate_is_closed, block_passes, block_begins, frame_leads, first_short, no_frame_ends}
use Rattle.redo_log.proofs.FindLemmas.{found, drop_part}

-- a place of a scan: where it is, what is left of its block, and whether the scan has ended
abbrev pub place : ℕ → ℕ → Bool → Place
place at left ended = record { at = at; left = left; ended = ended }

-- the blocks of each region lie within the length that the layout wants
pub region_inside : (l : Layout) (r : ℕ) → IsInLimits l → r ≤ 1 → blocks_place l r + blocks_len l ≤ wanted l
region_inside l zero limits most = let small = limits.small_log in omega (arith, small)
region_inside l (suc zero) limits most = let small = limits.small_log in omega (arith, small)
region_inside l (suc (suc r)) limits most = absurd (omega arith)

ends_by : (l : Layout) (gs : List Group) (at k : ℕ) (r s : LogRead) → Leads gs k r s → end_at l (at + k) s ≡ end_at l at r
ends_by l gs at k r s leads = elim (cases_Bool s.early) [
  | inl early ↦ ap (λ (t : Bool). if t then region_room l else at + k + s.used) early ∙ sym (ap (λ (t : Bool). if t then region_room l else at + r.used) (leads.early ∙ early))
  | inr on ↦
      let u = leads.used on in
      let same : at + k + s.used ≡ at + r.used = omega (arith, u) in
      ap (λ (t : Bool). if t then region_room l else at + k + s.used) on ∙ same ∙ sym (ap (λ (t : Bool). if t then region_room l else at + r.used) (leads.early ∙ on))
]

-- a log that ends early gives nothing more
ends_at_room : (l : Layout) (at : ℕ) (r : LogRead) → r ≡ ends_early [] → end_at l (region_room l) log_end ≡ end_at l at r
ends_at_room l at r is = let none : region_room l + 0 ≡ region_room l = omega arith in none ∙ sym (ap (end_at l at) is)

pub advances_none : (l : Layout) (region : ℕ) (p : Place) (file : List ℕ) → Advances l region [] p p file
advances_none l region p file = record { groups = refl; ends = refl }

pub advances_then : (l : Layout) (region : ℕ) (gs : List Group) (p q r : Place) (file : List ℕ) → Advances l region [] p q file → Advances l region gs q r file → Advances l region gs p r file
advances_then l region gs p q r file one two = record { groups = one.groups ∙ two.groups; ends = two.ends ∙ one.ends }

module _ (l : Layout) (limits : IsInLimits l) (region : ℕ) (most : region ≤ 1) (file : List ℕ) (whole : wanted l ≤ length file) where
  abbrev rest : ℕ → ℕ → LogRead
  rest at left = rest_in l.pages left (blocks_from l region at file)

  bytes_long : (at : ℕ) → at ≤ blocks_len l → length (blocks_from l region at file) ≡ blocks_len l - at
  bytes_long at inside = length-part file (blocks_place l region + at) (blocks_len l - at) (let i = region_inside l region limits most in omega (arith, i, whole, inside))

  -- ---- at a gate

  module _ (from at : ℕ) (behind : from ≤ at) (inside : at < blocks_len l) where
    abbrev k : ℕ
    k = at - from

    to_gate : (g : Gate) → LeadsTo l.pages (blocks_place l region) (blocks_len l) from (found at g) file → Leads [] (0 + k) (rest from 0) (log_in l.pages (blocks_from l region at file))
    to_gate g leads = leads_then [] 0 k (rest from 0) (log_in l.pages (blocks_from l region from file)) _ (at_gate_rest l.pages (blocks_from l region from file)) leads.log

    pub closed_advances : LeadsTo l.pages (blocks_place l region) (blocks_len l) from (found at Closed) file → Advances l region [] (place from 0 false) (place at 0 true) file
    closed_advances leads =
        let all = leads_then [] (0 + k) 0 (rest from 0) (log_in l.pages (blocks_from l region at file)) log_end (to_gate Closed leads) (gate_is_closed l.pages (blocks_from l region at file) leads.gate) in
        let e : from + (0 + k + 0) ≡ at = omega (arith, behind) in
        record { groups = all.groups; ends = ap (λ (m : ℕ). end_at l m log_end) (sym e) ∙ ends_by l [] from (0 + k + 0) (rest from 0) log_end all }

    pub early_advances : LeadsTo l.pages (blocks_place l region) (blocks_len l) from (found at Early) file → Advances l region [] (place from 0 false) (place (region_room l) 0 true) file
    early_advances leads =
        let bytes = blocks_from l region at file in
        let gate : IsGate Early bytes = leads.gate in
        let long = bytes_long at (omega (arith, inside)) in
        let is = block_passes l.pages bytes gate.0 (omega (arith, long, inside)) gate.1 in
        let all = leads_then [] (0 + k) 0 (rest from 0) (log_in l.pages bytes) (ends_early []) (to_gate Early leads) (leads_same _ _ is) in
        record {
          groups = all.groups;
          ends = let none : region_room l + 0 ≡ region_room l = omega arith in none ∙ sym (ap (λ (t : Bool). if t then region_room l else from + (rest from 0).used) all.early);
        }

    pub open_advances : (n : ℕ) → LeadsTo l.pages (blocks_place l region) (blocks_len l) from (found at (Open n)) file → Advances l region [] (place from 0 false) (place (at + 5) n false) file
    open_advances n leads =
        let bytes = blocks_from l region at file in
        let gate : IsGate (Open n) bytes = leads.gate in
        let long = bytes_long at (omega (arith, inside)) in
        let is = gate.1 in
        let fits = gate.2 in
        let d : blocks_place l region + at + 5 ≡ blocks_place l region + (at + 5) = omega arith in
        let f : blocks_len l - at - 5 ≡ blocks_len l - (at + 5) = omega arith in
        let next : drop 5 bytes ≡ blocks_from l region (at + 5) file = drop_part file (blocks_place l region + at) (blocks_len l - at) 5 (omega (arith, fits, long)) ∙ ap₂ (part file) d f in
        let begins = block_begins l.pages bytes gate.0 (omega (arith, fits, is)) in
        let P : List ℕ → Type 0 = λ xs. Leads [] 5 (log_in l.pages bytes) (rest_in l.pages n xs) in
        let Q : ℕ → Type 0 = λ m. Leads [] 5 (log_in l.pages bytes) (rest_in l.pages m (drop 5 bytes)) in
        let all = leads_then [] (0 + k) 5 (rest from 0) (log_in l.pages bytes) (rest (at + 5) n) (to_gate (Open n) leads) (subst P next (subst Q (sym is) begins)) in
        let e : from + (0 + k + 5) ≡ at + 5 = omega (arith, behind) in
        record { groups = all.groups; ends = ap (λ (m : ℕ). end_at l m (rest (at + 5) n)) (sym e) ∙ ends_by l [] from (0 + k + 5) (rest from 0) (rest (at + 5) n) all }

  -- ---- at a frame

  module _ (at left : ℕ) (some : 0 < left) (within : at + left ≤ region_room l) where
    abbrev bytes : List ℕ
    bytes = blocks_from l region at file

    inside_bytes : left ≤ length bytes
    inside_bytes = let long = bytes_long at (omega (arith, within)) in let small = limits.small_log in omega (arith, long, within, small)

    head_is : part file (blocks_place l region + at) left ≡ take left bytes
    unfolding part
    head_is = let small = limits.small_log in sym (take-take left (blocks_len l - at) (drop (blocks_place l region + at) file) (omega (arith, within, small)))

    bad_advances : is_frame l.pages (first_bytes (take left bytes)) ≡ false → Advances l region [] (place at left false) (place (region_room l) 0 true) file
    bad_advances bad =
        let is = no_frame_ends l.pages left bytes some inside_bytes bad in
        record { groups = ap (λ (r : LogRead). r.groups) is; ends = ends_at_room l at (rest at left) is }

    pub headless_advances : (f : List ℕ) → IsHead false f (part file (blocks_place l region + at) left) → Advances l region [] (place at left false) (place (region_room l) 0 true) file
    headless_advances f none =
        let P : List ℕ → Type 0 = λ xs. ¬ (HasHeader (first_bytes xs)) in
        let no = subst P head_is none in
        elim (cases_Bool (is_frame l.pages (first_bytes (take left bytes)))) [
          | inr bad ↦ bad_advances bad
          | inl good ↦ absurd (no ((frame_parts l.pages (first_bytes (take left bytes)) (frame_holds l.pages (first_bytes (take left bytes)) good)).0))
        ]

    pub other_advances : (f : List ℕ) → IsHead true f (part file (blocks_place l region + at) left) → ¬ (HoldsFrame l.pages f) → Advances l region [] (place at left false) (place (region_room l) 0 true) file
    other_advances f head none =
        let e : f ≡ first_bytes (take left bytes) = head ∙ ap first_bytes head_is in
        let P : List ℕ → Type 0 = λ xs. ¬ (HoldsFrame l.pages xs) in
        let no = subst P e none in
        elim (cases_Bool (is_frame l.pages (first_bytes (take left bytes)))) [
          | inr bad ↦ bad_advances bad
          | inl good ↦ absurd (no (frame_holds l.pages (first_bytes (take left bytes)) good))
        ]

    pub frame_advances : (f : List ℕ) (g : Group) → IsHead true f (part file (blocks_place l region + at) left) → HoldsFrame l.pages f → ((ws : Group) → IsFrame l.pages ws f → g ≡ ws)
        → Advances l region (g ∷ []) (place at left false) (place (at + length f) (left - length f) false) file
    frame_advances f g head holds same =
        let first = first_bytes (take left bytes) in
        let e : f ≡ first = head ∙ ap first_bytes head_is in
        let few = limits.max_pages in
        let P : List ℕ → Type 0 = λ xs. is_frame l.pages xs ≡ true in
        let good_f = holds_frame l.pages f (omega (arith, few)) holds in
        let good = subst P e good_f in
        let is = holds.1 in
        let s = is.short in
        let loggable : IsLoggable l.pages holds.0 = record { short = omega (arith, s, ap length is.frame); inside = is.inside } in
        let ws : g ≡ writes_in f = same holds.0 is ∙ sym (ap writes_in is.frame ∙ loggable_read l.pages holds.0 (omega (arith, few)) loggable) in
        let short : length f ≤ left = let s = first_short l.pages left bytes some inside_bytes in let m = ap length e in omega (arith, s, m) in
        let d : blocks_place l region + at + length f ≡ blocks_place l region + (at + length f) = omega arith in
        let h : blocks_len l - at - length f ≡ blocks_len l - (at + length f) = omega arith in
        let long = bytes_long at (omega (arith, within)) in
        let in_b = inside_bytes in
        let next : drop (length f) bytes ≡ blocks_from l region (at + length f) file = drop_part file (blocks_place l region + at) (blocks_len l - at) (length f) (omega (arith, short, long, in_b)) ∙ ap₂ (part file) d h in
        let Q : List ℕ → Type 0 = λ xs. Leads (writes_in xs ∷ []) (length xs) (rest at left) (rest_in l.pages (left - length xs) (drop (length xs) bytes)) in
        let one = subst Q (sym e) (frame_leads l.pages left bytes some in_b good) in
        let R : List ℕ → Type 0 = λ xs. Leads (writes_in f ∷ []) (length f) (rest at left) (rest_in l.pages (left - length f) xs) in
        let two = subst R next one in
        let S : Group → Type 0 = λ ws. Leads (ws ∷ []) (length f) (rest at left) (rest (at + length f) (left - length f)) in
        let all = subst S (sym ws) two in
        record { groups = all.groups; ends = ends_by l (g ∷ []) at (length f) (rest at left) (rest (at + length f) (left - length f)) all }

  -- ---- a place whose parts are told by equations

  pub stops : (p : Place) (f : List ℕ) (head : Bool) (group : Option GroupView) (room : ℕ) → p.ended ≡ false → 0 < p.left → p.at + p.left ≤ region_room l → room ≡ region_room l → group ≡ None
      → IsHead head f (part file (blocks_place l region + p.at) p.left) → (head ≡ false) ⊎ ((head ≡ true) × ¬ (HoldsFrame l.pages f)) → Advances l region (writes_of group) p (place room 0 true) file
  stops p f head group room on some within is none read why =
      let H : Bool → Type 0 = λ b. IsHead b f (part file (blocks_place l region + p.at) p.left) in
      let one : Advances l region [] (place p.at p.left false) (place (region_room l) 0 true) file =
      ⊎_elim (λ short. headless_advances p.at p.left some within f (subst H short read)) (λ other. other_advances p.at p.left some within f (subst H other.0 read) other.1) why in
      let E : Bool → Type 0 = λ e. Advances l region [] (place p.at p.left e) (place (region_room l) 0 true) file in
      let R : ℕ → Type 0 = λ m. Advances l region [] p (place m 0 true) file in
      let G : Option GroupView → Type 0 = λ o. Advances l region (writes_of o) p (place room 0 true) file in
      subst G (sym none) (subst R (sym is) (subst E (sym on) one))

  pub takes : (p : Place) (f : List ℕ) (head taken : Bool) (group : Option GroupView) (len : ℕ) → p.ended ≡ false → 0 < p.left → p.at + p.left ≤ region_room l → len ≡ length f
      → IsHead head f (part file (blocks_place l region + p.at) p.left) → head ≡ true → IsTaken taken l.pages f group → taken ≡ true
      → Advances l region (writes_of group) p (place (p.at + len) (p.left - len) false) file
  takes p f head taken group len on some within is read whole took yes_taken =
      let H : Bool → Type 0 = λ b. IsHead b f (part file (blocks_place l region + p.at) p.left) in
      let T : Bool → Type 0 = λ b. IsTaken b l.pages f group in
      let all = subst T yes_taken took in
      let one = frame_advances p.at p.left some within f all.0.writes (subst H whole read) all.3 all.5 in
      let E : Bool → Type 0 = λ e. Advances l region (all.0.writes ∷ []) (place p.at p.left e) (place (p.at + length f) (p.left - length f) false) file in
      let R : ℕ → Type 0 = λ m. Advances l region (all.0.writes ∷ []) p (place (p.at + m) (p.left - m) false) file in
      let G : Option GroupView → Type 0 = λ o. Advances l region (writes_of o) p (place (p.at + len) (p.left - len) false) file in
      subst G (sym all.1) (subst R (sym is) (subst E (sym on) one))

-- ---- of a file that may be told

-- a file that reaches as far as b reaches as far as any a before it
pub told_inside : (o : Option (List ℕ)) (a b : ℕ) → a ≤ b → IfSome o (λ file. b ≤ length file) → IfSome o (λ file. a ≤ length file)
told_inside None a b le whole = tt
told_inside (Some file) a b le whole = omega (arith, le, whole)

-- a number read from bytes that the file holds is the number in that part of the file
pub told_number : (o : Option (List ℕ)) (from at n result : ℕ) (bytes : List ℕ) → from ≡ at → length bytes ≡ n → result ≡ big_number n bytes → IfSome o (λ file. Holds file from bytes) → IfSome o (λ file. result ≡ big_number n (part file at n))
told_number None from at n result bytes same long is holds = tt
told_number (Some file) from at n result bytes same long is holds =
    is ∙ ap (big_number n) (sym (ap (λ (k : ℕ). part file k n) (sym same) ∙ held_whole file bytes from n holds long))

-- a step to a gate that was found is one for the file that is told, as it is for any whole one
pub told_found : (l : Layout) (region from blocks len : ℕ) (p q : Place) (f : Found) (o : Option (List ℕ)) → blocks ≡ blocks_place l region → len ≡ blocks_len l → p ≡ place from 0 false
    → IfSome o (λ file. wanted l ≤ length file) → IfSome o (λ file. (pages : ℕ) → LeadsTo pages blocks len from f file)
    → ((file : List ℕ) → wanted l ≤ length file → LeadsTo l.pages (blocks_place l region) (blocks_len l) from f file → Advances l region [] (place from 0 false) q file)
    → IfSome o (λ file. Advances l region [] p q file)
told_found l region from blocks len p q f None begins size start whole leads step = tt
told_found l region from blocks len p q f (Some file) begins size start whole leads step =
    let B : ℕ → Type 0 = λ b. LeadsTo l.pages b len from f file in
    let N : ℕ → Type 0 = λ n. LeadsTo l.pages (blocks_place l region) n from f file in
    let P : Place → Type 0 = λ x. Advances l region [] x q file in
    subst P (sym start) (step file whole (subst N size (subst B begins (leads l.pages))))

-- ---- a whole scan

-- what is still to come at a region's beginning is the region's log
pub begins_at : (l : Layout) (region : ℕ) (file : List ℕ) → IsInLimits l → Leads [] 0 (rest_of l region (place 0 0 false) file) (log_of l region file)
begins_at l region file limits =
    let here : blocks_from l region 0 file ≡ blocks_in l region file = ap₂ (part file) (let e : blocks_place l region + 0 ≡ blocks_place l region = omega arith in e) (let f : blocks_len l - 0 ≡ blocks_len l = omega arith in f) in
    let P : List ℕ → Type 0 = λ xs. Leads [] 0 (rest_of l region (place 0 0 false) file) (log_in l.pages xs) in
    subst P here (at_gate_rest l.pages (blocks_from l region 0 file))

-- and it ends where the region's log ends
pub begins_end : (l : Layout) (region : ℕ) (file : List ℕ) → IsInLimits l → end_of l region (place 0 0 false) file ≡ end_at l 0 (log_of l region file)
begins_end l region file limits = sym (ends_by l [] 0 0 (rest_of l region (place 0 0 false) file) (log_of l region file) (begins_at l region file limits))
