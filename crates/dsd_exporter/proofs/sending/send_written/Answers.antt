use Rattle.dsd_exporter.proofs.sending.send_written.Goals as goal

pub returns-clause-sent : goal.returns-clause-sent
returns-clause-sent g c =
    let lines = c.send_lines-sent.ensures in
    record {
      outcomes = lines.handed.0;
      hands = lines.handed.1;
      emptied = lines.emptied;
      counts = lines.handed.2;
      all = lines.all;
    }
