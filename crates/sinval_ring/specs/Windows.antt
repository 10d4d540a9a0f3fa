-- The last of all messages.
use Rattle.std.specs.Prelude.{ℕ, List}
use Rattle.inval_messages.specs.declared.message.Message.{Message}

-- how many of them are kept, and all of them
pub record Window : Type 0 where
  pub size : ℕ
  pub log : List Message
