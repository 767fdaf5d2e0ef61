-- The kinds of the names that a profile's record is read from.
use mathlib.Core.Path.{◌≡◌, refl}
use Rattle.line_bytes.specs.Bytes.{bytes, equal}
use Rattle.line_bytes.specs.Cells.{first_piece}
use Rattle.line_bytes.specs.Names.{parameter_length}
use Rattle.text.specs.Catalogue.{listed, base256, insert, ordered, flat, names, kinds, search_from, look_up, kind_in}
use Rattle.format.specs.Columns.{kind_of_name}

pub time-kind : kind_of_name (bytes "TIME") ≡ 10
unfolding kind_of_name parameter_length equal kind_in look_up search_from first_piece names kinds flat ordered listed insert base256
time-kind = refl

pub castno-kind : kind_of_name (bytes "CASTNO") ≡ 8
unfolding kind_of_name parameter_length equal kind_in look_up search_from first_piece names kinds flat ordered listed insert base256
castno-kind = refl

pub date-kind : kind_of_name (bytes "DATE") ≡ 9
unfolding kind_of_name parameter_length equal kind_in look_up search_from first_piece names kinds flat ordered listed insert base256
date-kind = refl
