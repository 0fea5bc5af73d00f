use Rattle.lanes.proofs.Call.all_rounds.Goals as goal

pub returns-in-Encrypt : goal.returns-in-Encrypt
returns-in-Encrypt c = rw c.in-Encrypt.is c.encrypted.ensures

pub returns-in-Decrypt : goal.returns-in-Decrypt
returns-in-Decrypt c = rw c.in-Decrypt.is c.decrypted.ensures
