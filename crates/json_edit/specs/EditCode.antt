-- How the logic stores pairs and paths, so that they can be the value of a type with a model.
use Rattle.std.specs.Prelude.{List}
use Rattle.std.specs.Coded.{Coded, coded×, coded_list}
use Rattle.tree_model.specs.Tree.{Tree}
use Rattle.tree_model.specs.TreeCode.{tree_code}
use Rattle.tree_model.specs.Path.{Path}
use Rattle.json_path.specs.LegCode.{path_code}

abbrev pub pairs_code : Coded (List (Path × Tree))
pairs_code = coded_list (coded× path_code tree_code)

abbrev pub paths_code : Coded (List Path)
paths_code = coded_list path_code
