use Rattle.row_dir.proofs.dir.RowDir.load_page.Goals as goal

pub returns-in-Ok-clause-loads : goal.returns-in-Ok-clause-loads
returns-in-Ok-clause-loads g c = λ pages rows next is n its d. c.in-Ok.ensures.loads pages rows next is n its (c.reserve_page.ensures.directory rows d)
