use Rattle.std.proofs.Common.{◌≡◌, ◌∙◌, [], ℕ, List, Some, ap, sym, get_or, map, slice_set}
use Rattle.std.proofs.lemmas.List.{map-set, get_or-map}
use Rattle.page_model.specs.Pages.{patched}
use Rattle.mini_trx.specs.Copies.{PageCopy, page_copy, copy_of}
use Rattle.mini_trx.proofs.lent.patch.Goals as goal

pub returns-in-Some-clause-patched : goal.returns-in-Some-clause-patched
returns-in-Some-clause-patched c =
    let places = c.args.places.now in
    let i = c.args.i in
    let at = c.args.at in
    let bytes = c.args.bytes.now in
    let here : get_or (map copy_of places) i (page_copy 0 []) ≡ page_copy c.in-Some.lent.page.0 c.in-Some.lent.frame =
    get_or-map copy_of places i c.index-places-i.result (page_copy 0 []) c.requires.place ∙ ap copy_of c.in-Some.is in
    map-set copy_of places i (Some (record { page = c.in-Some.lent.page; frame = c.patch.new.self }))
    ∙ ap (λ (q : List ℕ). slice_set (map copy_of places) i (page_copy c.in-Some.lent.page.0 q)) c.patch.ensures
    ∙ ap (λ (p : PageCopy). slice_set (map copy_of places) i (page_copy p.page (patched p.bytes at bytes))) (sym here)
