use Rattle.mother_format.proofs.header.Opening.{header_fits}
use Rattle.mother_format.proofs.header.open.Goals as goal

pub overflow_cast-header : goal.overflow_cast-header
overflow_cast-header c = header_fits _ _ _ _ _ _ _ c.in_ok-check_places.ensures c.header_address-address.ensures c.offset_of-header.ensures
