use Rattle.std.proofs.Common.{◌≡◌, sym, ap, ◌∙◌}
use Rattle.page_model.specs.Pages.{field}
use Rattle.file_lists.proofs.LinkLemmas.{at_told}
use Rattle.store_data.specs.Store.{Log}
use Rattle.purge.proofs.LogLemmas.{at_first, page_is}
use Rattle.purge.proofs.kinds.log_trx.Goals as goal

pub returns-clause-value : goal.returns-clause-value
returns-clause-value g c = λ there pages store l ls at.
    let log = c.args.log.0 in
    let f = at_first _ log there pages store l ls at in
    let s = f.stands in
    let read = at_told _ (λ ps. c.in_ok-trx.trx ≡ field ps log 53 6) pages at.told'
    c.in_ok-trx.ensures.value in
    read ∙ ap (λ n. field pages n 53 6) (sym (page_is _ log there pages store l ls at)) ∙ s.trx
    ∙ ap (λ (m : Log). m.trx) f.shows
