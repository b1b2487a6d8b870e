-- Frames that stand one behind another are read back.
use Rattle.std.proofs.Common.{◌≡◌, ℕ, zero, suc, ◌^◌, ◌<◌, ◌≤◌, Bool, true, List, [], ◌∷◌, ◌++◌, length, take, drop, All, if◌then◌else◌, refl, sym, ap, ap₂, ◌∙◌, arith}
use Rattle.std.specs.List.{list_all}
use Rattle.std.proofs.lemmas.Bool.{and_from, le-leb, lt-ltb}
use Rattle.std.proofs.lemmas.Slice.Eq.{bytes_eq-Decides}
use Rattle.std.proofs.lemmas.List.{append-nil, append_assoc, take_at, drop_at, length-append}
use Rattle.std.proofs.lemmas.List.Elements.{All-tail}
use Rattle.byteorder.specs.Endian.{big_number}
use Rattle.byteorder.specs.Numbers.{big_from-append}
use Rattle.page_model.specs.Pages.{Write}
use Rattle.page_model.specs.Frames.{frame_bytes, writes_in, IsInside, IsFrame}
use Rattle.page_model.proofs.GroupFrameLemmas.{all_small, frame_read, length-frame}
use Rattle.page_model.proofs.ParseLemmas.{frame_parts}
use Rattle.file_model.specs.Frames.{Group, frames_bytes, is_inside, is_frame, first_bytes, found, no_frame, frames_from, frames_of, IsLoggable}

-- with a group more, its frame stands behind those of the others
pub frames_more : (gs : List Group) (g : Group) → frames_bytes (gs ++ g ∷ []) ≡ frames_bytes gs ++ frame_bytes g
frames_more [] g = append-nil (frame_bytes g)
frames_more (h ∷ gs) g = ap (λ (t : List ℕ). frame_bytes h ++ t) (frames_more gs g) ∙ sym (append_assoc (frame_bytes h) (frames_bytes gs) (frame_bytes g))

inside_wider : (pages : ℕ) (ws : List Write) → pages ≤ 2 ^ 32 → All (IsInside pages) ws → All (IsInside (2 ^ 32)) ws
inside_wider pages ws few inside = λ i d low. let one = inside i d low in record { page = omega (arith, one.page, few); within = one.within }

-- the writes read in a loggable group's frame are the group
pub loggable_read : (pages : ℕ) (g : Group) → pages ≤ 2 ^ 32 → IsLoggable pages g → writes_in (frame_bytes g) ≡ g
loggable_read pages g few is = frame_read g (all_small g (inside_wider pages g few is.inside)) is.short

all_inside : (pages : ℕ) (ws : List Write) → All (IsInside pages) ws → list_all (is_inside pages) ws ≡ true
all_inside pages [] inside = refl
all_inside pages (w ∷ ws) inside =
    let one = inside 0 w (omega arith) in
    and_from _ _ (and_from _ _ (lt-ltb _ _ one.page) (le-leb _ _ one.within)) (all_inside pages ws (All-tail (IsInside pages) w ws inside))

-- a loggable group's frame passes the test for frames
pub loggable_frame : (pages : ℕ) (g : Group) → pages ≤ 2 ^ 32 → IsLoggable pages g → is_frame pages (frame_bytes g) ≡ true
loggable_frame pages g few is =
    let back = loggable_read pages g few is in
    and_from _ _ (and_from _ _ ((bytes_eq-Decides (frame_bytes g) _).1 (ap frame_bytes (sym back))) (le-leb _ _ is.short)) (ap (list_all (is_inside pages)) back ∙ all_inside pages g is.inside)

-- the frame at the head of bytes
pub first_frame : (pages : ℕ) (g : Group) (rest : List ℕ) → IsLoggable pages g → first_bytes (frame_bytes g ++ rest) ≡ frame_bytes g
first_frame pages g rest is =
    let frame : IsFrame pages g (frame_bytes g) = record { frame = refl; short = is.short; inside = is.inside } in
    let len = (frame_parts pages (frame_bytes g) (g, frame)).0 in
    let four : big_number 4 (frame_bytes g ++ rest) ≡ length (frame_bytes g) = big_from-append 4 (frame_bytes g) rest (omega (arith, len.long)) ∙ len.len in
    ap (λ (n : ℕ). take n (frame_bytes g ++ rest)) four ∙ take_at (frame_bytes g) rest (length (frame_bytes g)) refl

frames_step : (n pages : ℕ) (xs f : List ℕ) → 0 < length xs → first_bytes xs ≡ f → is_frame pages f ≡ true → frames_from (suc n) pages xs ≡ found (writes_in f) (frames_from n pages (drop (length f) xs))
frames_step n pages [] f some is good = absurd (omega arith)
frames_step n pages (x ∷ xs) f some is good =
    ap (λ (t : List ℕ). if is_frame pages t then found (writes_in t) (frames_from n pages (drop (length t) (x ∷ xs))) else no_frame) is
    ∙ ap (λ (t : Bool). if t then found (writes_in f) (frames_from n pages (drop (length f) (x ∷ xs))) else no_frame) good

pub frames_read : (n pages : ℕ) (gs : List Group) → pages ≤ 2 ^ 32 → All (IsLoggable pages) gs → length (frames_bytes gs) ≤ n
    → frames_from n pages (frames_bytes gs) ≡ record { groups = gs; whole = true }
frames_read zero pages [] few good enough = refl
frames_read (suc n) pages [] few good enough = refl
frames_read zero pages (g ∷ gs) few good enough = absurd (omega (arith, length-append (frame_bytes g) (frames_bytes gs), length-frame g))
frames_read (suc n) pages (g ∷ gs) few good enough =
    let is = good 0 g (omega arith) in
    let both = length-append (frame_bytes g) (frames_bytes gs) in
    let six = length-frame g in
    frames_step n pages (frame_bytes g ++ frames_bytes gs) (frame_bytes g) (omega arith) (first_frame pages g (frames_bytes gs) is) (loggable_frame pages g few is)
    ∙ ap₂ (λ (h : Group) (t : List ℕ). found h (frames_from n pages t)) (loggable_read pages g few is) (drop_at (frame_bytes g) (frames_bytes gs) (length (frame_bytes g)) refl)
    ∙ ap (found g) (frames_read n pages gs few (All-tail (IsLoggable pages) g gs good) (omega arith))

-- the frames of loggable groups are read as these groups, with nothing left over
pub frames_back : (pages : ℕ) (gs : List Group) → pages ≤ 2 ^ 32 → All (IsLoggable pages) gs → frames_of pages (frames_bytes gs) ≡ record { groups = gs; whole = true }
unfolding frames_of
frames_back pages gs few good = frames_read (length (frames_bytes gs)) pages gs few good (omega arith)
