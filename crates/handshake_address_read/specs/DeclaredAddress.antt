-- The declared address of an entry, which the code reads by a function of its own.
use Rattle.wire.specs.Reader.{Reader, and_then, byte}
use Rattle.types.specs.declared.Address.{Address}
use Rattle.handshake.specs.Entry.{address_if}

-- an address flag byte, an address if the flag isn't 0
unfoldable pub declared_address : Reader Address
declared_address = and_then byte address_if
