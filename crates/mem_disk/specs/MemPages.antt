-- Pages in memory, as the definitions over pages see them.
use Rattle.std.specs.Prelude.{[], length, Some, None}
use Rattle.page_model.specs.Pages.{Pages}
use Rattle.page_model.specs.Steps.{PageState, whole_room}
use Rattle.mem_disk.specs.declared.mem_pages.MemPages.{MemPages}

abbrev pub pages_in : MemPages → Pages
pages_in m = m.pages.items

-- it keeps no account of its writes, no page counts as pinned, a write takes no room, and no call
-- fails
abbrev pub page_state : MemPages → PageState
page_state m = record {
  told = Some (pages_in m);
  writes = None;
  count = length (pages_in m);
  touched = [];
  room = whole_room;
  faults = 0;
}
