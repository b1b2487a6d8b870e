-- In a sound store no two LOBs have a page in common, so runs of one touch no other.
use Rattle.std.proofs.Common.{◌≡◌, ◌≢◌, ◌⊎◌, inl, inr, ℕ, Bool, true, false, nat_le, if◌then◌else◌, List, [], ◌∷◌, ◌++◌, map, Option, Some, None, refl, sym, ap, ap₂, subst, ◌∙◌}
use Rattle.std.proofs.lemmas.Bool.{cases_eq, ne_eqb}
use Rattle.std.proofs.lemmas.Bool.Decides.{eqb_tells}
use Rattle.store_data.specs.Pieces.{Part, version_at, piece_at}
use Rattle.store_data.specs.Store.{Row, live, Reference, Version, Piece, Lob, Run, Store}
use Rattle.store_model.specs.Lobs.{part_list, parts_at, lob_of, pieces_of, parts}
use Rattle.store_model.specs.Runs.{bytes_laid, all_laid}
use Rattle.store_model.specs.History.{Change, changes, row_before}
use Rattle.store_model.specs.Owned.{data_page, data_pages, piece_pages, rest_of, lob_pages, log_pages, owned_lobs, IsNotAmong, AreDifferent, AreSound, IsAmong, AreOf}
use Rattle.store_model.specs.Events.{Plan, patch_made}
use Rattle.store_model.specs.Behind.{AllRows, IsElsewhere}
use Rattle.store_model.specs.Moves.{MayChange, Begins, ArePaired, StandThere, IsUntouched}
use Rattle.store_model.specs.Well.{AllIn, IsWell}
use Rattle.store_model.proofs.LogLemmas.{Some_same, None_not_Some}
use Rattle.store_model.proofs.OwnedLemmas.{unowned_lob}
use Rattle.store_model.proofs.ChangeLemmas.{patch_begins}

-- ---- lists of pages

-- a page is among a list of pages, or it isn't
pub among_or_not : (n : ℕ) (ms : List ℕ) → IsAmong n ms ⊎ IsNotAmong n ms
among_or_not n [] = inr tt
among_or_not n (m ∷ ms) = elim (cases_eq m n) [
  | inl same ↦ inl (inl same)
  | inr other ↦ elim (among_or_not n ms) [ inl there ↦ inl (inr there) | inr none ↦ inr (other, none) ]
]

pub among_left : (n : ℕ) (xs ys : List ℕ) → IsAmong n xs → IsAmong n (xs ++ ys)
among_left n [] ys there = absurd there
among_left n (x ∷ xs) ys there = elim there [ inl same ↦ inl same | inr rest ↦ inr (among_left n xs ys rest) ]

pub among_right : (n : ℕ) (xs ys : List ℕ) → IsAmong n ys → IsAmong n (xs ++ ys)
among_right n [] ys there = there
among_right n (x ∷ xs) ys there = inr (among_right n xs ys there)

not_both : (n : ℕ) (ms : List ℕ) → IsAmong n ms → IsNotAmong n ms → ⊥
not_both n [] there none = there
not_both n (m ∷ ms) there none = elim there [ inl same ↦ none.0 same | inr rest ↦ not_both n ms rest none.1 ]

different_behind : (xs ys : List ℕ) → AreDifferent (xs ++ ys) → AreDifferent ys
different_behind [] ys all = all
different_behind (x ∷ xs) ys all = different_behind xs ys all.1

not_right : (n : ℕ) (xs ys : List ℕ) → IsNotAmong n (xs ++ ys) → IsNotAmong n ys
not_right n [] ys none = none
not_right n (x ∷ xs) ys none = not_right n xs ys none.1

different_apart : (n : ℕ) (xs ys : List ℕ) → AreDifferent (xs ++ ys) → IsAmong n xs → IsNotAmong n ys
different_apart n [] ys all there = absurd there
different_apart n (x ∷ xs) ys all there = elim there [
  | inl same ↦ subst (λ m. IsNotAmong m ys) same (not_right x xs ys all.0)
  | inr rest ↦ different_apart n xs ys all.1 rest
]

-- ---- two LOBs

pages_there : (lobs : List Lob) (page n : ℕ) (pages : List ℕ) → IsAmong page pages → IsAmong n (page ∷ rest_of (lob_of lobs page)) → IsAmong n (lob_pages lobs pages)
pages_there lobs page n [] there here = absurd there
pages_there lobs page n (p ∷ ps) there here = elim there [
  | inl same ↦ among_left n (p ∷ rest_of (lob_of lobs p)) (lob_pages lobs ps) (subst (λ q. IsAmong n (q ∷ rest_of (lob_of lobs q))) (sym same) here)
  | inr rest ↦ among_right n (p ∷ rest_of (lob_of lobs p)) (lob_pages lobs ps) (pages_there lobs page n ps rest here)
]

pub lobs_apart : (lobs : List Lob) (p q m n : ℕ) (pages : List ℕ) → AreDifferent (lob_pages lobs pages) → IsAmong p pages → IsAmong q pages → p ≢ q
    → IsAmong m (p ∷ rest_of (lob_of lobs p)) → IsAmong n (q ∷ rest_of (lob_of lobs q)) → m ≢ n
lobs_apart lobs p q m n [] all a b differ here there = absurd a
lobs_apart lobs p q m n (r ∷ rs) all a b differ here there = elim a [
  | inl is_p ↦ elim b [
    | inl is_q ↦ absurd (differ (sym is_p ∙ is_q))
    | inr later ↦ λ same. not_both n (lob_pages lobs rs) (pages_there lobs q n rs later there)
        (different_apart n (r ∷ rest_of (lob_of lobs r)) (lob_pages lobs rs) all (subst (λ x. IsAmong x (r ∷ rest_of (lob_of lobs r))) same (subst (λ x. IsAmong m (x ∷ rest_of (lob_of lobs x))) (sym is_p) here)))
  ]
  | inr later_p ↦ elim b [
    | inl is_q ↦ λ same. not_both m (lob_pages lobs rs) (pages_there lobs p m rs later_p here)
        (different_apart m (r ∷ rest_of (lob_of lobs r)) (lob_pages lobs rs) all (subst (λ x. IsAmong x (r ∷ rest_of (lob_of lobs r))) (sym same) (subst (λ x. IsAmong n (x ∷ rest_of (lob_of lobs x))) (sym is_q) there)))
    | inr later_q ↦ lobs_apart lobs p q m n rs (different_behind (r ∷ rest_of (lob_of lobs r)) (lob_pages lobs rs) all) later_p later_q differ here there
  ]
]

-- ---- the pages of what a row shows

abbrev AllParts : (Part → Type 0) → List Part → Type 0
AllParts P [] = Unit {0}
AllParts P (x ∷ xs) = P x × AllParts P xs

all_parts : (P Q : Part → Type 0) (xs : List Part) → ((x : Part) → P x → Q x) → AllParts P xs → AllParts Q xs
all_parts P Q [] so all = tt
all_parts P Q (x ∷ xs) so all = (so x all.0, all_parts P Q xs so all.1)

parts_join : (P : Part → Type 0) (xs ys : List Part) → AllParts P xs → AllParts P ys → AllParts P (xs ++ ys)
parts_join P [] ys a b = b
parts_join P (x ∷ xs) ys a b = (a.0, parts_join P xs ys a.1 b)

-- no run is of the part's page
abbrev pub AwayFrom : List Run → Part → Type 0
AwayFrom [] x = Unit {0}
AwayFrom (r ∷ rs) x = (x.page ≢ r.page) × AwayFrom rs x

-- the first page, or one of the others
abbrev IsIn : ℕ → List ℕ → ℕ → Type 0
IsIn first pages n = (first ≡ n) ⊎ IsAmong n pages

in_data : (first : ℕ) (v : Version) (more : List ℕ) → IsIn first (data_page first v ++ more) v.page
in_data first v more = elim (eqb_tells v.page first) [
  | inl same ↦ inl (sym same.1)
  | inr other ↦ rw other.0 (inr (inl refl))
]

in_later : (first : ℕ) (xs ys : List ℕ) (n : ℕ) → IsIn first ys n → IsIn first (xs ++ ys) n
in_later first xs ys n there = elim there [ inl same ↦ inl same | inr rest ↦ inr (among_right n xs ys rest) ]

in_sooner : (first : ℕ) (xs ys : List ℕ) (n : ℕ) → IsIn first xs n → IsIn first (xs ++ ys) n
in_sooner first xs ys n there = elim there [ inl same ↦ inl same | inr rest ↦ inr (among_left n xs ys rest) ]

version_in : (first : ℕ) (vs : List Version) (n : ℕ) → AllParts (λ x. IsIn first (data_pages first vs) x.page) (part_list (version_at vs n))
version_in first [] n = tt
version_in first (v ∷ vs) n = by_test (nat_le v.number n) (all_parts _ _ (part_list (version_at vs n)) (λ x. in_later first (data_page first v) (data_pages first vs) x.page) (version_in first vs n))
  where
    by_test : (b : Bool) → AllParts (λ x. IsIn first (data_pages first (v ∷ vs)) x.page) (part_list (version_at vs n)) → AllParts (λ x. IsIn first (data_pages first (v ∷ vs)) x.page) (part_list (if b then Some v else version_at vs n))
    by_test true rest = (in_data first v (data_pages first vs), tt)
    by_test false rest = rest

pieces_in : (first : ℕ) (ps : List Piece) (n : ℕ) → AllParts (λ x. IsIn first (piece_pages first ps) x.page) (parts_at ps n)
pieces_in first [] n = tt
pieces_in first (p ∷ ps) n = parts_join _ (part_list (piece_at p n)) (parts_at ps n)
    (all_parts _ _ (part_list (piece_at p n)) (λ x. in_sooner first (data_pages first (p.head ∷ p.older)) (piece_pages first ps) x.page) (version_in first (p.head ∷ p.older) n))
    (all_parts _ _ (parts_at ps n) (λ x. in_later first (data_pages first (p.head ∷ p.older)) (piece_pages first ps) x.page) (pieces_in first ps n))

lob_page : (lobs : List Lob) (page : ℕ) (l : Lob) → lob_of lobs page ≡ Some l → l.page ≡ page
lob_page [] page l there = absurd (None_not_Some there)
lob_page (m ∷ ms) page l there = elim (eqb_tells m.page page) [
  | inl same ↦ sym (ap (λ (x : Lob). x.page) (Some_same m l (sym (ap (λ (b : Bool). if b then Some m else lob_of ms page) same.0) ∙ there))) ∙ same.1
  | inr other ↦ lob_page ms page l (sym (ap (λ (b : Bool). if b then Some m else lob_of ms page) other.0) ∙ there)
]

pub parts_in : (lobs : List Lob) (r : Reference) → AllParts (λ x. IsAmong x.page (r.page ∷ rest_of (lob_of lobs r.page))) (parts lobs r)
parts_in lobs r = by_lob (lob_of lobs r.page) refl
  where
    by_lob : (o : Option Lob) → lob_of lobs r.page ≡ o → AllParts (λ x. IsAmong x.page (r.page ∷ rest_of o)) (parts_at (pieces_of o) r.version)
    by_lob None e = tt
    by_lob (Some l) e = subst (λ n. AllParts (λ x. IsAmong x.page (n ∷ rest_of (Some l))) (parts_at l.pieces r.version)) (lob_page lobs r.page l e)
        (all_parts _ _ (parts_at l.pieces r.version) (λ x there. elim there [ inl same ↦ inl same | inr rest ↦ inr (among_right x.page l.index (piece_pages l.page l.pieces) rest) ]) (pieces_in l.page l.pieces r.version))

-- ---- runs of another LOB

laid_away : (rs : List Run) (x : Part) → AwayFrom rs x → all_laid rs x ≡ x
laid_away [] x away = refl
laid_away (r ∷ rs) x away = ap (all_laid rs) (ap (λ (b : Bool). let y : Part = record x { bytes = if b then bytes_laid r x.at x.bytes else x.bytes } in y) (ne_eqb x.page r.page away.0)) ∙ laid_away rs x away.1

all_away : (rs : List Run) (xs : List Part) → AllParts (AwayFrom rs) xs → map (all_laid rs) xs ≡ xs
all_away rs [] away = refl
all_away rs (x ∷ xs) away = ap₂ (λ (y : Part) (ys : List Part). y ∷ ys) (laid_away rs x away.0) (all_away rs xs away.1)

runs_away : (lobs : List Lob) (pages : List ℕ) (p q : ℕ) (rs : List Run) (x : Part) → AreDifferent (lob_pages lobs pages) → IsAmong p pages → IsAmong q pages → p ≢ q
    → AreOf p lobs rs → IsAmong x.page (q ∷ rest_of (lob_of lobs q)) → AwayFrom rs x
runs_away lobs pages p q [] x all a b differ are there = tt
runs_away lobs pages p q (r ∷ rs) x all a b differ are there =
    ((λ e. lobs_apart lobs p q r.page x.page pages all a b differ are.0 there (sym e)), runs_away lobs pages p q rs x all a b differ are.1 there)

pub lob_untouched : (lobs : List Lob) (pages : List ℕ) (p : ℕ) (rs : List Run) (row : Row) → AreDifferent (lob_pages lobs pages) → IsAmong p pages → AreOf p lobs rs
    → (row.state ≡ live → IsAmong row.lob.page pages) → IsElsewhere p row → IsUntouched rs lobs row
lob_untouched lobs pages p rs row all a are owned_lob elsewhere is_live =
    all_away rs (parts lobs row.lob) (all_parts _ _ (parts lobs row.lob)
    (λ x there. runs_away lobs pages p row.lob.page rs x all a (owned_lob is_live) (λ e. elsewhere is_live (sym e)) are there) (parts_in lobs row.lob))

-- ---- each live row's LOB is owned

owned_down : (pages : List ℕ) (row : Row) (cs : List Change) → ((page : ℕ) → IsNotAmong page pages → AllIn (IsElsewhere page) row cs) → AllIn (λ r. r.state ≡ live → IsAmong r.lob.page pages) row cs
owned_down pages row [] none = (one row (λ page n. (none page n).0), tt)
  where
    one : (r : Row) → ((page : ℕ) → IsNotAmong page pages → IsElsewhere page r) → r.state ≡ live → IsAmong r.lob.page pages
    one r none is_live = elim (among_or_not r.lob.page pages) [ inl there ↦ there | inr gone ↦ absurd (none r.lob.page gone is_live refl) ]
owned_down pages row (c ∷ cs) none = (one row (λ page n. (none page n).0), owned_down pages c.undo.before cs (λ page n. (none page n).1))
  where
    one : (r : Row) → ((page : ℕ) → IsNotAmong page pages → IsElsewhere page r) → r.state ≡ live → IsAmong r.lob.page pages
    one r none is_live = elim (among_or_not r.lob.page pages) [ inl there ↦ there | inr gone ↦ absurd (none r.lob.page gone is_live refl) ]

pub lobs_are_owned : (store : Store) (d : ℕ) → IsWell store → AllRows (λ r. r.state ≡ live → IsAmong r.lob.page (owned_lobs store)) store d
lobs_are_owned store d well = owned_down (owned_lobs store) (row_before store d) (changes store d) (λ page none. unowned_lob page store well none d)

-- in a sound store no page is twice among those of the owned LOBs
pub sound_lobs : (store : Store) → AreSound store → AreDifferent (lob_pages store.lobs (owned_lobs store))
sound_lobs store sound =
    different_behind (log_pages store.committed) (lob_pages store.lobs (owned_lobs store))
    (different_behind (log_pages store.active) (log_pages store.committed ++ lob_pages store.lobs (owned_lobs store))
    (different_behind (0 ∷ store.row_pages) (log_pages store.active ++ (log_pages store.committed ++ lob_pages store.lobs (owned_lobs store))) sound))

both_rows : (P Q R : Row → Type 0) (row : Row) (cs : List Change) → ((r : Row) → P r → Q r → R r) → AllIn P row cs → AllIn Q row cs → AllIn R row cs
both_rows P Q R row [] so p q = (so row p.0 q.0, tt)
both_rows P Q R row (c ∷ cs) so p q = (so row p.0 q.0, both_rows P Q R c.undo.before cs so p.1 q.1)

-- runs of a document's LOB touch no other document
pub others_untouched : (store : Store) (d e : ℕ) (rs : List Run) → IsWell store → AreSound store → d ≢ e → (row_before store d).state ≡ live → AreOf (row_before store d).lob.page store.lobs rs
    → AllRows (IsUntouched rs store.lobs) store e
others_untouched store d e rs well sound differ is_live are =
    both_rows (λ r. r.state ≡ live → IsAmong r.lob.page (owned_lobs store)) (IsElsewhere (row_before store d).lob.page) _ (row_before store e) (changes store e)
    (λ r there elsewhere. lob_untouched store.lobs (owned_lobs store) (row_before store d).lob.page rs r (sound_lobs store sound) ((lobs_are_owned store d well).0 is_live) are there elsewhere)
    (lobs_are_owned store e well) ((well.apart d e differ).0 is_live)

-- in a sound store a change in place of pages of the document's own LOB adds a row to its history
-- and leaves the others
pub sound_patch : (p : Plan) (old new : List Run) (store : Store) → IsWell store → AreSound store → MayChange p store → (row_before store p.doc).state ≡ live
    → AreOf (row_before store p.doc).lob.page store.lobs new → ArePaired old new → StandThere old store.lobs → Begins p store (patch_made p old new store)
sound_patch p old new store well sound may is_live are pairs there =
    patch_begins p old new store may pairs there (λ e other. others_untouched store p.doc e new well sound (λ x. other (sym x)) is_live are)
