use Rattle.std.proofs.Common.{◌≡◌, map, subst, length, arith}
use Rattle.std.proofs.lemmas.List.{length-map}
use Rattle.page_model.specs.Pages.{Address}
use Rattle.page_model.specs.Lists.{IsList}
use Rattle.lob_model.specs.Pieces.{place_of}
use Rattle.lob_model.specs.Places.{versions_base}
use Rattle.lob_versions.proofs.PieceLemmas.{list_in, few_versions}
use Rattle.lob_versions.proofs.search.count.Goals as goal

pub returns-clause-counts : goal.returns-clause-counts
returns-clause-counts g c = λ pages lob piece s size.
    let P : Address → Type 0 = λ a. IsList pages (versions_base a) (map place_of piece.older) in
    let list = subst P s.head' (list_in pages lob s.before piece s.behind s.lob' s.pieces) in
    let n = c.in_ok-older.ensures.value pages (map place_of piece.older) s.told' list in
    let long : length (map place_of piece.older) ≡ length piece.older = length-map piece.older place_of in
    let few = few_versions pages lob s.before piece s.behind (g.P.Pages.state c.args.p.now).count s.lob' s.pieces (g.P.Pages.whole c.args.p.now pages s.told').many size in
    omega (arith, n, long, c.saturating_add.ensures, few)
