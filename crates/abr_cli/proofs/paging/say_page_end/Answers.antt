use Rattle.std.proofs.Common.{◌∙◌, sym}
use Rattle.abr_cli.proofs.Paged.{file_said}
use Rattle.abr_cli.proofs.paging.say_page_end.Goals as goal

pub returns-in-Some : goal.returns-in-Some
returns-in-Some g c = rw (sym c.unwritten.ensures ∙ c.in-Some.is) (file_said c.in-Some.name _ _ _ c.say_fault.ensures)

pub returns-in-None : goal.returns-in-None
returns-in-None g c = rw (sym c.unwritten.ensures ∙ c.in-None.is) c.say_end.ensures
