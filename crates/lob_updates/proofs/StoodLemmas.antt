-- What stood where runs of a LOB lie: in no other LOB, and whole in each version of its own.
use Rattle.std.proofs.Common.{◌≡◌, ◌≢◌, inl, inr, ℕ, ◌+◌, ◌-◌, ◌<◌, ◌≤◌, ◌==◌, Bool, true, if◌then◌else◌, List, [], ◌∷◌, ◌++◌, drop, get_or, length, Some, sym, ap, subst, ◌∙◌, arith}
use Rattle.std.proofs.lemmas.Bool.Decides.{eqb_tells}
use Rattle.std.proofs.lemmas.List.{length-take, get_or-take, get_or-drop}
use Rattle.page_model.specs.Pages.{Pages, byte, bytes_at, page_at}
use Rattle.page_model.specs.Counts.{times, one_if}
use Rattle.page_model.proofs.CountLemmas.{times-append}
use Rattle.undo_model.proofs.OptionLemmas.{some_some, not_some}
use Rattle.store_data.specs.Pieces.{part_of}
use Rattle.store_data.specs.Store.{Version, Piece, Lob, Run}
use Rattle.lob_model.specs.Pieces.{versions, piece_versions}
use Rattle.lob_model.specs.Lobs.{IsVersion, AreVersions, lob_pages, data_pages}
use Rattle.store_model.specs.Lobs.{lob_of}
use Rattle.store_model.specs.Patches.{IsOld, AreOld}
use Rattle.store_model.specs.Moves.{AllVersions, AllPieces, AllLobs, StandThere}
use Rattle.store_parts.specs.Stored.{pages_of}
use Rattle.store_parts.specs.Standing.{AreLobs}
use Rattle.store_pages.specs.Runs.{IsInside, AreInside}
use Rattle.store_pages.proofs.LaidLemmas.{version_counts, counts_more}
use Rattle.lob_updates.specs.Patches.{run_there, runs_there}

-- ---- a run lies within the versions of its page, in whichever LOB

abbrev pub AllInside : Run → List Lob → Type 0
AllInside r [] = Unit {0}
AllInside r (l ∷ ls) = AreInside r (versions l.pieces) × AllInside r ls

none_on : (r : Run) (first : ℕ) (xs : List Version) → r.page ≢ first
    → times r.page (data_pages first xs) ≡ 0 → AreInside r xs
none_on r first [] other none = tt
none_on r first (x ∷ xs) other none = (
  (λ here. absurd (let c = version_counts first x r.page xs here other in omega (arith, c, none))),
  none_on r first xs other (let c = counts_more first r.page x xs in omega (arith, c, none)),
)

none_in : (r : Run) (l : Lob) → times r.page (lob_pages l) ≡ 0 → AreInside r (versions l.pieces)
none_in r l none =
    let rest = times-append r.page l.index (data_pages l.page (versions l.pieces)) in
    elim (eqb_tells l.page r.page) [
      | inl same ↦ absurd (counted same.0)
      | inr other ↦ none_on r l.page (versions l.pieces) (λ e. other.1 (sym e))
          (let n = none in omega (arith, rest, n))
    ]
  where
    counted : (l.page == r.page) ≡ true → ⊥
    counted same =
        let P : Bool → Type 0 = λ b. one_if b
        + times r.page (l.index ++ data_pages l.page (versions l.pieces)) ≡ 0 in
        let n = subst P same none in omega (arith, n)

none_inside : (r : Run) (ls : List Lob) → times r.page (pages_of ls) ≡ 0 → AllInside r ls
none_inside r [] none = tt
none_inside r (l ∷ ls) none =
    let both = times-append r.page (lob_pages l) (pages_of ls) in
    (none_in r l (omega (arith, both, none)), none_inside r ls (omega (arith, both, none)))

-- of LOBs that have no page twice the run's page is that of one
pub all_inside : (r : Run) (ls : List Lob) (page : ℕ) (l : Lob) → lob_of ls page ≡ Some l
    → 1 ≤ times r.page (lob_pages l) → times r.page (pages_of ls) ≤ 1
    → AreInside r (versions l.pieces)
    → AllInside r ls × (1 ≤ times r.page (pages_of ls))
all_inside r [] page l is has once inside = absurd (not_some l is)
all_inside r (m ∷ ms) page l is has once inside =
    let both = times-append r.page (lob_pages m) (pages_of ms) in
    elim (eqb_tells m.page page) [
      | inl same ↦ (
          let e : m ≡ l = some_some m l
          (ap (λ (b : Bool). if b then Some m else lob_of ms page) (sym same.0) ∙ is) in
          let here : 1 ≤ times r.page (lob_pages m) =
          subst (λ (x : Lob). 1 ≤ times r.page (lob_pages x)) (sym e) has in (
            (
              subst (λ (x : Lob). AreInside r (versions x.pieces)) (sym e) inside,
              none_inside r ms (omega (arith, both, once, here)),
            ),
            omega (arith, both, here),
          )
          )
      | inr other ↦ (
          let rest = all_inside r ms page l
          (ap (λ (b : Bool). if b then Some m else lob_of ms page) (sym other.0) ∙ is) has
          (omega (arith, both, once)) inside in
          let some = rest.1 in (
            (none_in r m (omega (arith, both, once, some)), rest.0),
            omega (arith, both, some),
          )
          )
    ]

-- ---- what stood there, of one run

abbrev pub Stood : Pages → Run → Version → Type 0
Stood pages r v = v.page ≡ r.page → IsOld (run_there pages r) (part_of v)

bytes_in : (pages : Pages) (page at n i : ℕ) → i < n
    → get_or (bytes_at pages page at n) i 0 ≡ byte pages page (at + i)
bytes_in pages page at n i below =
    get_or-take n (drop at (page_at pages page)) i 0 below
    ∙ get_or-drop at (page_at pages page) i 0

version_stood : (pages : Pages) (first : ℕ) (r : Run) (x : Version) → IsVersion pages first x
    → IsInside r x → Stood pages r x
version_stood pages first r x is inside here =
    let i = inside here in
    let n = length r.bytes in
    let d = is.«data» in
    let short : length (bytes_at pages r.page r.at n) ≤ n =
    (let t = length-take n (drop r.at (page_at pages r.page)) in omega (arith, t)) in
    let P : ℕ → Type 0 = λ a. bytes_at pages x.page a (length x.bytes) ≡ x.bytes in
    let stands = subst P (sym d.place) d.bytes in
    record {
      low = i.0;
      high = omega (arith, i.1, short);
      same = λ k below.
          let j = r.at + k - x.at in
          let e : x.at + j ≡ r.at + k = omega (arith, i.0) in
          bytes_in pages r.page r.at n k (omega (arith, below, short))
          ∙ ap (λ (p : ℕ). byte pages p (r.at + k)) (sym here)
          ∙ ap (λ (m : ℕ). byte pages x.page m) (sym e)
          ∙ sym (bytes_in pages x.page x.at (length x.bytes) j
          (omega (arith, below, short, i.0, i.1)))
          ∙ ap (λ (bs : List ℕ). get_or bs j 0) stands;
    }

versions_stood : (pages : Pages) (first : ℕ) (r : Run) (xs : List Version)
    → AreVersions pages first xs → AreInside r xs → AllVersions (Stood pages r) xs
versions_stood pages first r [] are inside = tt
versions_stood pages first r (x ∷ xs) are inside = (
  version_stood pages first r x are.0 inside.0,
  versions_stood pages first r xs are.1 inside.1,
)

split : (P : Version → Type 0) (xs ys : List Version) → AllVersions P (xs ++ ys)
    → AllVersions P xs × AllVersions P ys
split P [] ys all = (tt, all)
split P (x ∷ xs) ys all = let r = split P xs ys all.1 in ((all.0, r.0), r.1)

by_pieces : (P : Version → Type 0) (ps : List Piece) → AllVersions P (versions ps) → AllPieces P ps
by_pieces P [] all = tt
by_pieces P (p ∷ ps) all =
    let r = split P (piece_versions p) (versions ps) all in
    (r.0.0, r.0.1, by_pieces P ps r.1)

lobs_stood : (pages : Pages) (r : Run) (ls : List Lob) → AreLobs pages ls → AllInside r ls
    → AllLobs (Stood pages r) ls
lobs_stood pages r [] are inside = tt
lobs_stood pages r (l ∷ ls) are inside = (
  by_pieces (Stood pages r) l.pieces
      (versions_stood pages l.page r (versions l.pieces) (let s = are.0 in s.versions) inside.0),
  lobs_stood pages r ls are.1 inside.1,
)

-- ---- of all runs

both_versions : (P Q R : Version → Type 0) → ((v : Version) → P v → Q v → R v)
    → (vs : List Version) → AllVersions P vs → AllVersions Q vs → AllVersions R vs
both_versions P Q R so [] p q = tt
both_versions P Q R so (v ∷ vs) p q = (so v p.0 q.0, both_versions P Q R so vs p.1 q.1)

both_pieces : (P Q R : Version → Type 0) → ((v : Version) → P v → Q v → R v)
    → (ps : List Piece) → AllPieces P ps → AllPieces Q ps → AllPieces R ps
both_pieces P Q R so [] p q = tt
both_pieces P Q R so (x ∷ xs) p q = (
  so x.head p.0 q.0,
  both_versions P Q R so x.older p.1 q.1,
  both_pieces P Q R so xs p.2 q.2,
)

both_lobs : (P Q R : Version → Type 0) → ((v : Version) → P v → Q v → R v)
    → (ls : List Lob) → AllLobs P ls → AllLobs Q ls → AllLobs R ls
both_lobs P Q R so [] p q = tt
both_lobs P Q R so (l ∷ ls) p q =
    (both_pieces P Q R so l.pieces p.0 q.0, both_lobs P Q R so ls p.1 q.1)

any_versions : (P : Version → Type 0) → ((v : Version) → P v) → (vs : List Version)
    → AllVersions P vs
any_versions P so [] = tt
any_versions P so (v ∷ vs) = (so v, any_versions P so vs)

any_pieces : (P : Version → Type 0) → ((v : Version) → P v) → (ps : List Piece) → AllPieces P ps
any_pieces P so [] = tt
any_pieces P so (p ∷ ps) = (so p.head, any_versions P so p.older, any_pieces P so ps)

any_lobs : (P : Version → Type 0) → ((v : Version) → P v) → (ls : List Lob) → AllLobs P ls
any_lobs P so [] = tt
any_lobs P so (l ∷ ls) = (any_pieces P so l.pieces, any_lobs P so ls)

-- each run within the versions of its page
abbrev pub EachInside : List Run → List Lob → Type 0
EachInside [] ls = Unit {0}
EachInside (r ∷ rs) ls = AllInside r ls × EachInside rs ls

pub runs_stood : (pages : Pages) (rs : List Run) (ls : List Lob) → AreLobs pages ls
    → EachInside rs ls → StandThere (runs_there pages rs) ls
runs_stood pages [] ls are inside = any_lobs (λ v. AreOld [] (part_of v)) (λ v. tt) ls
runs_stood pages (r ∷ rs) ls are inside =
    both_lobs (Stood pages r) (λ v. AreOld (runs_there pages rs) (part_of v))
    (λ v. AreOld (runs_there pages (r ∷ rs)) (part_of v)) (λ v one rest. (one, rest)) ls
    (lobs_stood pages r ls are inside.0) (runs_stood pages rs ls are inside.1)
