-- What an owned warehouse stands for. Assumes nothing: these are definitions.
use Rattle.std.specs.Prelude.{vec_items}
use Rattle.hierarchy.specs.Dimensions.{Dims}
use Rattle.model.specs.House.{House, Limits}
use Rattle.storage.specs.Memory.{sides, limits, house_in}
use Rattle.warehouse.specs.declared.house.Warehouse.{Warehouse}

-- its dimensions and its room, which never change
abbrev pub dims_in : Warehouse → Dims
dims_in w = sides w.layout

abbrev pub limits_in : Warehouse → Limits
limits_in w = limits w.layout

-- the facts and the kept tables
abbrev pub house_of : Warehouse → House
house_of w = house_in w.layout (vec_items w.book) (vec_items w.tables)
