-- The groups that a log gives lie within the pages, so they fit the pages of a file.
use Rattle.std.proofs.Common.{◌≡◌, inl, inr, ℕ, zero, suc, ◌+◌, ◌^◌, ◌≤◌, Bool, true, List, [], ◌∷◌, ◌++◌, length, drop, All, slice_index, nat_le, if◌then◌else◌, refl, sym, ap, ◌∙◌, arith}
use Rattle.std.specs.List.{list_all}
use Rattle.std.proofs.lemmas.Bool.{cases_lt, cases_Bool, and_parts, and_from, ltb-true, leb-true}
use Rattle.std.proofs.lemmas.List.{append_assoc, get_or_past}
use Rattle.std.proofs.lemmas.List.Elements.{All-cons}
use Rattle.std.proofs.lemmas.List.Folds.{list_all-append}
use Rattle.page_model.specs.Pages.{Pages, AreWhole, Write, page_bytes, AllFit}
use Rattle.page_model.specs.Frames.{frame_bytes, writes_in, IsInside, HoldsFrame}
use Rattle.page_model.proofs.WholeLemmas.{fit_all, whole_written}
use Rattle.file_model.specs.declared.layout.Layout.{Layout}
use Rattle.file_model.specs.Sections.{part, page_place, wanted}
use Rattle.file_model.specs.Doublewrite.{is_odd, homes}
use Rattle.file_model.specs.Frames.{Group, applied, is_inside, is_frame, first_bytes, FramesRead, found, no_frame, frames_from, frames_of, IsLoggable}
use Rattle.file_model.specs.Blocks.{LogRead, joined, frames_len, log_from, log_in, log_of, blocks_in}
use Rattle.std.proofs.lemmas.Slice.Eq.{bytes_eq-Decides}
use Rattle.file_model.proofs.FrameLemmas.{loggable_frame}
use Rattle.file_model.proofs.PartLemmas.{length-part}
use Rattle.file_model.proofs.BatchLemmas.{length-homes, page_at-homes}
use Rattle.file_model.proofs.RedoLemmas.{flat, applied_flat, SameShape}

abbrev pub AreAllInside : ℕ → List Group → Type 0
AreAllInside pages gs = list_all (is_inside pages) (flat gs) ≡ true

flat_then : (gs hs : List Group) → flat (gs ++ hs) ≡ flat gs ++ flat hs
flat_then [] hs = refl
flat_then (g ∷ gs) hs = ap (λ (ws : List Write). g ++ ws) (flat_then gs hs) ∙ sym (append_assoc g (flat gs) (flat hs))

inside_then : (pages : ℕ) (gs hs : List Group) → AreAllInside pages gs → AreAllInside pages hs → AreAllInside pages (gs ++ hs)
inside_then pages gs hs one two = ap (list_all (is_inside pages)) (flat_then gs hs) ∙ list_all-append (is_inside pages) (flat gs) (flat hs) ∙ and_from _ _ one two

frames_inside : (n pages : ℕ) (bytes : List ℕ) → AreAllInside pages (frames_from n pages bytes).groups
frames_inside zero pages [] = refl
frames_inside zero pages (b ∷ bytes) = refl
frames_inside (suc n) pages [] = refl
frames_inside (suc n) pages (b ∷ bytes) = elim (cases_Bool (is_frame pages (first_bytes (b ∷ bytes)))) [
  | inl good ↦
      let ws = writes_in (first_bytes (b ∷ bytes)) in
      let rest = frames_from n pages (drop (length (first_bytes (b ∷ bytes))) (b ∷ bytes)) in
      ap (λ (t : Bool). list_all (is_inside pages) (flat (if t then found ws rest else no_frame).groups)) good
      ∙ list_all-append (is_inside pages) ws (flat rest.groups) ∙ and_from _ _ (and_parts _ _ good).1 (frames_inside n pages (drop (length (first_bytes (b ∷ bytes))) (b ∷ bytes)))
  | inr bad ↦ ap (λ (t : Bool). list_all (is_inside pages) (flat (if t then found (writes_in (first_bytes (b ∷ bytes))) (frames_from n pages (drop (length (first_bytes (b ∷ bytes))) (b ∷ bytes))) else no_frame).groups)) bad
]

of_inside : (pages : ℕ) (bytes : List ℕ) → AreAllInside pages (frames_of pages bytes).groups
unfolding frames_of
of_inside pages bytes = frames_inside (length bytes) pages bytes

joined_inside : (pages : ℕ) (fs : FramesRead) (len : ℕ) (after : LogRead) → AreAllInside pages fs.groups → AreAllInside pages after.groups → AreAllInside pages (joined fs len after).groups
joined_inside pages fs len after one two = elim (cases_Bool fs.whole) [
  | inl whole ↦ rw whole (inside_then pages fs.groups after.groups one two)
  | inr bad ↦ rw bad one
]

log_inside : (n pages : ℕ) (bytes : List ℕ) → AreAllInside pages (log_from n pages bytes).groups
log_inside zero pages bytes = refl
log_inside (suc n) pages bytes = elim (cases_Bool (is_odd (slice_index bytes 0))) [
  | inr shut ↦ rw shut refl
  | inl odd ↦ rw odd (elim (cases_Bool (nat_le (6 + frames_len bytes) (length bytes))) [
    | inr past ↦ rw past refl
    | inl fits ↦ rw fits (joined_inside pages (frames_of pages (part bytes 5 (frames_len bytes))) (5 + frames_len bytes) (log_from n pages (drop (5 + frames_len bytes) bytes)) (of_inside pages (part bytes 5 (frames_len bytes))) (log_inside n pages (drop (5 + frames_len bytes) bytes)))
  ])
]

pub log_groups_inside : (l : Layout) (region : ℕ) (file : List ℕ) → AreAllInside l.pages (log_of l region file).groups
unfolding log_in
log_groups_inside l region file = log_inside (length (blocks_in l region file)) l.pages (blocks_in l region file)

inside_at : (pages : ℕ) (ws : List Write) → list_all (is_inside pages) ws ≡ true → All (IsInside pages) ws
inside_at pages [] all = λ i d low. absurd (omega arith)
inside_at pages (w ∷ ws) all =
    let both = and_parts _ _ (and_parts _ _ all).0 in
    All-cons (IsInside pages) w ws (record { page = ltb-true _ _ both.0; within = leb-true _ _ both.1 }) (inside_at pages ws (and_parts _ _ all).1)

-- the pages at their places in a file of the whole length are of full size, and all there
pub homes_whole : (l : Layout) (file : List ℕ) → wanted l ≤ length file → AreWhole (homes l file) l.pages
homes_whole l file long = record {
  many = length-homes l file;
  each = λ n low. ap length (page_at-homes l file n low) ∙ length-part file (page_place l n) page_bytes (omega (arith, long));
}

-- the groups of a log fit pages of full size, and leave them so
module _ (l : Layout) (region : ℕ) (file : List ℕ) (p : Pages) (whole : AreWhole p l.pages) where
  abbrev gs : List Group
  gs = (log_of l region file).groups

  inside : All (IsInside l.pages) (flat gs)
  inside = inside_at l.pages (flat gs) (log_groups_inside l region file)

  pub log_fits : AllFit (flat (log_of l region file).groups) p
  log_fits = fit_all (flat gs) p l.pages whole inside

  pub log_whole : AreWhole (applied (log_of l region file).groups p) l.pages
  log_whole = rw (applied_flat gs p) (whole_written (flat gs) p l.pages whole inside)

-- so the pages of a file with its log applied have the shape of those at their places
pub log_shape : (l : Layout) (region : ℕ) (file : List ℕ) → wanted l ≤ length file → SameShape (homes l file) (applied (log_of l region file).groups (homes l file))
log_shape l region file long =
    let before = homes_whole l file long in
    let after = log_whole l region file (homes l file) before in
    record {
      many = after.many ∙ sym before.many;
      sizes = λ n. elim (cases_lt n l.pages) [
        | inl low ↦ after.each n low ∙ sym (before.each n low)
        | inr past ↦ ap length (get_or_past (applied (log_of l region file).groups (homes l file)) n [] (omega (arith, after.many)) ∙ sym (get_or_past (homes l file) n [] (omega (arith, before.many))))
      ];
    }

-- The test of a frame is exact: these bytes are the frame of some writes that a group may have.
pub frame_holds : (pages : ℕ) (bytes : List ℕ) → is_frame pages bytes ≡ true → HoldsFrame pages bytes
frame_holds pages bytes good =
    let both = and_parts _ _ good in
    let first = and_parts _ _ both.0 in
    (writes_in bytes, record { frame = (bytes_eq-Decides bytes (frame_bytes (writes_in bytes))).0 first.0; short = leb-true _ _ first.1; inside = inside_at pages (writes_in bytes) both.1 })

-- bytes that hold a frame within the pages pass the test for frames
pub holds_frame : (pages : ℕ) (bytes : List ℕ) → pages ≤ 2 ^ 32 → HoldsFrame pages bytes → is_frame pages bytes ≡ true
holds_frame pages bytes few (ws, is) =
    let short = is.short in
    let good : IsLoggable pages ws = record { short = omega (arith, short, ap length is.frame); inside = is.inside } in
    ap (is_frame pages) is.frame ∙ loggable_frame pages ws few good
