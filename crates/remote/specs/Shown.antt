-- The code's three flags as the model's record, which has the rule. Assumes nothing.
use Rattle.model.specs.State as model
use Rattle.remote.specs.declared.RemoteLocal.{RemoteLocal}

abbrev pub shown : RemoteLocal → model.RemoteLocal
shown f = record { enable = f.enable; lockout = f.lockout; remote = f.remote }
