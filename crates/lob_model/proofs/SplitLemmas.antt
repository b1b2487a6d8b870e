-- A LOB's pieces cut at one of them: its versions, entries, lists, order and lengths.
use Rattle.std.proofs.Common.{◌≡◌, ℕ, List, [], ◌∷◌, ◌++◌, map, length, refl, sym, ap, ◌∙◌, subst, arith}
use Rattle.page_model.specs.Pages.{Pages, Address}
use Rattle.store_data.specs.Store.{Version, Piece}
use Rattle.store_data.specs.Pieces.{pushed}
use Rattle.lob_model.specs.Pieces.{versions, piece_versions, place_of, head_place, moved, IsFalling, AreFalling, HaveLength, AreFull}
use Rattle.lob_model.specs.Lobs.{AreVersions, HaveLists}

assoc : {A : Type 0} (xs ys zs : List A) → (xs ++ ys) ++ zs ≡ xs ++ (ys ++ zs)
assoc [] ys zs = refl
assoc (x ∷ xs) ys zs = ap (λ us. x ∷ us) (assoc xs ys zs)

-- the versions of pieces are those before a piece, its own and those behind it
pub versions_cut : (bs : List Piece) (p : Piece) (cs : List Piece) → versions (bs ++ p ∷ cs) ≡ versions bs ++ (piece_versions p ++ versions cs)
versions_cut [] p cs = refl
versions_cut (b ∷ bs) p cs = ap (λ (us : List Version). piece_versions b ++ us) (versions_cut bs p cs) ∙ sym (assoc (piece_versions b) (versions bs) (piece_versions p ++ versions cs))

-- a piece with the same place of its head, in the place of another, leaves the list of heads
pub heads_same : (bs : List Piece) (p q : Piece) (cs : List Piece) → head_place p ≡ head_place q → map head_place (bs ++ p ∷ cs) ≡ map head_place (bs ++ q ∷ cs)
heads_same [] p q cs same = ap (λ (a : Address). a ∷ map head_place cs) same
heads_same (b ∷ bs) p q cs same = ap (λ (us : List Address). head_place b ∷ us) (heads_same bs p q cs same)

-- the places of two lists of versions joined are those of each, joined
pub places_cut : (xs ys : List Version) → map place_of (xs ++ ys) ≡ map place_of xs ++ map place_of ys
places_cut [] ys = refl
places_cut (x ∷ xs) ys = ap (λ (us : List Address). x.place ∷ us) (places_cut xs ys)

-- where the versions of two lists joined stand in pages, those of each do
pub are_split : (pages : Pages) (first : ℕ) (xs ys : List Version) → AreVersions pages first (xs ++ ys) → AreVersions pages first xs × AreVersions pages first ys
are_split pages first [] ys are = (tt, are)
are_split pages first (x ∷ xs) ys are = let rest = are_split pages first xs ys are.1 in ((are.0, rest.0), rest.1)

-- versions of two lists that stand in pages stand there joined
pub are_join : (pages : Pages) (first : ℕ) (xs ys : List Version) → AreVersions pages first xs → AreVersions pages first ys → AreVersions pages first (xs ++ ys)
are_join pages first [] ys a b = b
are_join pages first (x ∷ xs) ys a b = (a.0, are_join pages first xs ys a.1 b)

-- where the heads of two lists of pieces joined have their version lists, those of each have them
pub lists_split : (pages : Pages) (bs cs : List Piece) → HaveLists pages (bs ++ cs) → HaveLists pages bs × HaveLists pages cs
lists_split pages [] cs have = (tt, have)
lists_split pages (b ∷ bs) cs have = let rest = lists_split pages bs cs have.2 in ((have.0, have.1, rest.0), rest.1)

-- pieces of two lists whose heads have their version lists have them joined
pub lists_join : (pages : Pages) (bs cs : List Piece) → HaveLists pages bs → HaveLists pages cs → HaveLists pages (bs ++ cs)
lists_join pages [] cs a b = b
lists_join pages (x ∷ bs) cs a b = (a.0, a.1, lists_join pages bs cs a.2 b)

-- the versions' numbers fall still with another piece in the place of one, where they fall in it
pub falling_other : (bound : ℕ) (bs : List Piece) (p q : Piece) (cs : List Piece) → (IsFalling bound (piece_versions p) → IsFalling bound (piece_versions q)) → AreFalling bound (bs ++ p ∷ cs) → AreFalling bound (bs ++ q ∷ cs)
falling_other bound [] p q cs to falling = (to falling.0, falling.1)
falling_other bound (b ∷ bs) p q cs to falling = (falling.0, falling_other bound bs p q cs to falling.1)

-- a new head is as long as the one before
full_pushed : (room : ℕ) (p : Piece) (new : Version) (node : Address) (cs : List Piece) (others : ℕ) → length new.bytes ≡ length p.head.bytes → AreFull room others (p ∷ cs) → AreFull room others (pushed node new p ∷ cs)
full_pushed room p new node [] others same full =
    let P : ℕ → Type 0 = λ n. HaveLength n (moved node p.head ∷ p.older) in (omega (arith, same, full.0), subst P (sym same) (refl, full.1))
full_pushed room p new node (c ∷ cs) others same full = ((same ∙ full.0.0, full.0), full.1)

-- the pieces are full still where a version as long as the head is pushed in one
pub full_other : (room others : ℕ) (bs : List Piece) (p : Piece) (new : Version) (node : Address) (cs : List Piece) → length new.bytes ≡ length p.head.bytes
    → AreFull room others (bs ++ p ∷ cs) → AreFull room others (bs ++ pushed node new p ∷ cs)
full_other room others [] p new node cs same full = full_pushed room p new node cs others same full
full_other room others (b ∷ []) p new node cs same full = (full.0, full_pushed others p new node cs others same full.1)
full_other room others (b ∷ c ∷ bs) p new node cs same full = (full.0, full_other others others (c ∷ bs) p new node cs same full.1)
