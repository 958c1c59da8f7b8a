-- What the entries of tables lead to.
use Rattle.std.proofs.Common.{◌≡◌, false, refl}
use Rattle.schema.specs.Messages.{entry}
use Rattle.schema.specs.Moved.{mentions}
use Rattle.schema.specs.Shape.{Table, Mappings, Locations, Functions, Links, Strings, Attributes, Stacks}

-- no entry leads back to its own table
pub leads_elsewhere : (T : Table) → mentions T (entry T) ≡ false
leads_elsewhere Mappings = refl
leads_elsewhere Locations = refl
leads_elsewhere Functions = refl
leads_elsewhere Links = refl
leads_elsewhere Strings = refl
leads_elsewhere Attributes = refl
leads_elsewhere Stacks = refl
