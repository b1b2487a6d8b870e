-- The pages of a LOB, counted, with a version and without.
use Rattle.std.proofs.Common.{◌≡◌, ℕ, ◌+◌, List, ◌∷◌, ◌++◌, ap, arith}
use Rattle.page_model.specs.Counts.{times}
use Rattle.page_model.proofs.CountLemmas.{times-append}
use Rattle.store_data.specs.Store.{Piece, Lob}
use Rattle.lob_model.specs.Pieces.{versions, piece_versions}
use Rattle.lob_model.specs.Lobs.{lob_pages, data_pages}
use Rattle.lob_model.specs.Changes.{with_pieces}
use Rattle.lob_model.proofs.SplitLemmas.{versions_cut}
use Rattle.lob_index.proofs.GivenLemmas.{data_split}

data_cut : (n first : ℕ) (bs : List Piece) (q : Piece) (cs : List Piece)
    → times n (data_pages first (versions (bs ++ q ∷ cs))) ≡ times n (data_pages first (versions bs)) + (times n (data_pages first (piece_versions q)) + times n (data_pages first (versions cs)))
data_cut n first bs q cs =
    let a = data_split n first (versions bs) (piece_versions q ++ versions cs) in
    let b = data_split n first (piece_versions q) (versions cs) in
    let c : times n (data_pages first (versions (bs ++ q ∷ cs))) ≡ times n (data_pages first (versions bs ++ (piece_versions q ++ versions cs))) = ap (λ vs. times n (data_pages first vs)) (versions_cut bs q cs) in
    omega (arith, a, b, c)

-- what a piece has more, the LOB has more
pub pages_cut : (n : ℕ) (l : Lob) (bs : List Piece) (p q : Piece) (cs : List Piece) (given : List ℕ)
    → times n (data_pages l.page (piece_versions p)) ≡ times n given + times n (data_pages l.page (piece_versions q))
    → times n (lob_pages (with_pieces l (bs ++ p ∷ cs))) ≡ times n given + times n (lob_pages (with_pieces l (bs ++ q ∷ cs)))
pages_cut n l bs p q cs given more =
    let a = times-append n l.index (data_pages l.page (versions (bs ++ p ∷ cs))) in
    let b = times-append n l.index (data_pages l.page (versions (bs ++ q ∷ cs))) in
    let c = data_cut n l.page bs p cs in
    let d = data_cut n l.page bs q cs in
    omega (arith, a, b, c, d, more)
