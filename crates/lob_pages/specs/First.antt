-- The fields of a LOB's first page before its lists, as the code has them.
--     IsFirstAt pages page f      the first page has these fields
--     HasVersion v lob old new      the LOB stands at this version, and the rest of a store is kept
use Rattle.std.specs.Prelude.{◌≡◌, ℕ, []}
use Rattle.page_model.specs.Pages.{Pages, field}
use Rattle.page_model.specs.Spans.{SameOutside}
use Rattle.store_data.specs.Store.{Lob}
use Rattle.store_parts.specs.Keeps.{Keeps}
use Rattle.lob_model.specs.Lobs.{IsLob, lob_pages, lob_spans}
use Rattle.lob_model.specs.declared.layout.TheConstants.{LOB_VERSION, LAST_CHANGER, LAST_UNDO, FIRST_LENGTH, LOB_CREATOR}
use Rattle.lob_pages.specs.declared.first.FirstFields.{FirstFields}

pub record IsFirstAt (pages : Pages) (page : ℕ) (f : FirstFields) : Type 0 where
  pub version : field pages page LOB_VERSION 4 ≡ f.version.0
  pub changer : field pages page LAST_CHANGER 6 ≡ f.changer.0
  pub undo : field pages page LAST_UNDO 4 ≡ f.undo.0
  pub long : field pages page FIRST_LENGTH 4 ≡ f.length
  pub creator : field pages page LOB_CREATOR 6 ≡ f.creator.0

pub record HasVersion (v : ℕ) (lob : Lob) (old new : Pages) : Type 0 where
  pub stands : IsLob new (record lob { version = v })
  pub outside : SameOutside (lob_spans lob) old new
  pub keeps : Keeps [] (lob_pages lob) (lob_pages lob) old new
