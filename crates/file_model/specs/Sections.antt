-- Where the parts of a store's file stand: control block, doublewrite header and images, two log
-- regions, pages.
use Rattle.std.specs.Prelude.{ℕ, ◌+◌, ◌*◌, ◌≤◌, List, take, drop}
use Rattle.page_model.specs.Pages.{page_bytes}
use Rattle.file_model.specs.declared.layout.Layout.{Layout}

-- n bytes of a file
unfoldable pub part : List ℕ → ℕ → ℕ → List ℕ
part file at n = take n (drop at file)

abbrev pub control_bytes : ℕ
control_bytes = 4_096

-- the byte whose lowest bit is the live region
abbrev pub live_place : ℕ
live_place = 512

-- the byte whose lowest bit says that the doublewrite batch is armed
abbrev pub armed_place : ℕ
armed_place = 4_096

-- the count of a batch, and behind it the page numbers
abbrev pub count_place : ℕ
count_place = 4_608

abbrev pub image_place : ℕ → ℕ
image_place i = 8_192 + page_bytes * i

abbrev pub max_batch : ℕ
max_batch = 32

abbrev pub logs_place : ℕ
logs_place = 532_480

-- how many bytes a log region has
abbrev pub log_bytes : Layout → ℕ
log_bytes l = 1_024 * l.log_kib

abbrev pub region_place : Layout → ℕ → ℕ
region_place l region = logs_place + region * log_bytes l

-- where a region's blocks begin, behind its start LSN
abbrev pub blocks_place : Layout → ℕ → ℕ
blocks_place l region = region_place l region + 8

abbrev pub pages_place : Layout → ℕ
pages_place l = logs_place + 2 * log_bytes l

abbrev pub page_place : Layout → ℕ → ℕ
page_place l page = pages_place l + page_bytes * page

-- how many bytes such a store's file has; a longer one is accepted
abbrev pub wanted : Layout → ℕ
wanted l = pages_place l + page_bytes * l.pages

-- the limits of a layout
pub record IsInLimits (l : Layout) : Type 0 where
  pub few_pages : 16 ≤ l.pages
  pub max_pages : l.pages ≤ 32_768
  pub small_log : 1_024 ≤ l.log_kib
  pub large_log : l.log_kib ≤ 65_536
