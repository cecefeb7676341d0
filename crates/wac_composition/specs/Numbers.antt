-- The numbers of the collections of a graph.
use Rattle.std.specs.Prelude.{◌≡◌}
use Rattle.wac_types.specs.Collection.{Collection}

-- the three collections have the numbers 1, 2 and 3
pub record HaveNumbers (middleware handler client : Collection) : Type 0 where
  pub middleware_is : middleware.number ≡ 1
  pub handler_is : handler.number ≡ 2
  pub client_is : client.number ≡ 3
