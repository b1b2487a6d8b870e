-- A write of the code, as the definitions over pages see it.
use Rattle.page_model.specs.Pages.{Write}
use Rattle.mini_trx.specs.declared.page_write.PageWrite.{PageWrite}

abbrev pub write_of : PageWrite → Write
write_of w = record { page = w.page.0; at = w.at; bytes = w.bytes.now }
