use Rattle.amqp_read_write.proofs.laws.seeds_change_nothing.Goals as goal

pub returns-clause-read : goal.returns-clause-read
returns-clause-read g c limits seed input v n = (
  λ h. record { after = h.after; read = h.read; left = h.left },
  λ h. record { after = h.after; read = h.read; left = h.left },
)

pub returns-clause-refused : goal.returns-clause-refused
returns-clause-refused g c limits seed input e = (
  λ h. record {
    left = h.left;
    fault = h.fault;
    none = λ v n k. h.none v n (record { after = k.after; read = k.read; left = k.left });
    unspelled = h.unspelled;
  },
  λ h. record {
    left = h.left;
    fault = h.fault;
    none = λ v n k. h.none v n (record { after = k.after; read = k.read; left = k.left });
    unspelled = h.unspelled;
  },
)
