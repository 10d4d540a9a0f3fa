-- How the last of all messages are kept.
use Rattle.std.specs.Prelude.{◌≡◌}
use Rattle.circular_buffer.specs.Buffer.{keep_last}
use Rattle.sinval_ring.specs.declared.window.Window.TheInside.{Inside}
use Rattle.sinval_ring.specs.Windows.{Window}

abbrev pub window : Inside → Window
window w = record { size = w.buffer.capacity; log = w.log.items }

-- the buffer has the last of the messages
abbrev pub IsWindow : Inside → Type 0
IsWindow w = w.buffer.items ≡ keep_last w.buffer.capacity w.log.items
