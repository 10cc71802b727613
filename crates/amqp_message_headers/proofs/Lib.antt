mod CopiesEqual
