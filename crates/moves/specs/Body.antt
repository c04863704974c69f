-- How long a body of the journal may be.
use Rattle.std.specs.Prelude.{ℕ}

-- 02: bodies may reach 5,000 bytes
abbrev pub body_limit : ℕ
body_limit = 5000
